-- `times_columns` keeps its promise, byte by byte from what `times` ensures.
use Rattle.std.proofs.Common.{[], ◌∷◌}
use Rattle.aes.specs.State.{at}
use Rattle.aes.proofs.times_columns.Goals as goal

pub returns : goal.returns
unfolding at
returns g c =
    λ i. c.times.ensures i
    ∷ c.times-2.ensures i
    ∷ c.times-3.ensures i
    ∷ c.times-4.ensures i
    ∷ c.times-5.ensures i
    ∷ c.times-6.ensures i
    ∷ c.times-7.ensures i
    ∷ c.times-8.ensures i
    ∷ c.times-9.ensures i
    ∷ c.times-10.ensures i
    ∷ c.times-11.ensures i
    ∷ c.times-12.ensures i
    ∷ c.times-13.ensures i
    ∷ c.times-14.ensures i
    ∷ c.times-15.ensures i
    ∷ c.times-16.ensures i ∷ []
