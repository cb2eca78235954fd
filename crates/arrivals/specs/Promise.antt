-- What taking a number promises (docs/RULES.md, 10.3 to 10.6): the outcome, and the record where it is taken.
use Rattle.std.specs.Prelude.{ℕ, Result, ◌≡◌}
use Rattle.refusal.specs.Answer.{told_as}
use Rattle.refusal.specs.declared.Refusal.{Refusal}
use Rattle.arrivals.specs.Take.{take_of}
use Rattle.arrivals.specs.declared.Arrivals.{Arrivals}

-- the record after it where the number is taken, else the refusal
abbrev pub TakePromise : Arrivals → ℕ → Result Arrivals Refusal → Type 0
TakePromise a n r = told_as (λ b. b) r ≡ take_of a n
