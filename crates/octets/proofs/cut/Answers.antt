-- `cut` keeps its promise: the whole part, or what there is of it at the start of zeros.
use Rattle.std.proofs.Common.{◌≡◌, ◌-◌, ◌++◌, List, ℕ, arith, drop, length, min, replicate, take}
use Rattle.std.proofs.lemmas.Grind.{common_steps}
use Rattle.octets.specs.Place.{part, filled}
use Rattle.octets.proofs.Filled.{cut_filled, cut_whole}
use Rattle.octets.proofs.cut.Goals as goal

-- what is taken of the list's rest lies over the start of zeros
over_zeros : (n k a : ℕ) (l : List ℕ) → k ≡ min a (length l) → (m : ℕ) (x : List ℕ) → m ≡ min n (length l - k) → x ≡ take m (take (length l - k) (drop k l))
    → x ++ drop m (replicate {A = ℕ} n 0) ≡ filled n (part l a n)
over_zeros n k a l e m x f g = cut_filled n k m a l x e (grind (arith, common_steps, f)) g

pub returns-in-Some : goal.returns-in-Some
returns-in-Some g c =
    let a = c.args in
    let w = c.in-Some.ensures.cases in
    let e = cut_whole g.row.N _ a.at a.s.now c.min.ensures c.in-Some.whole.now in
    grind (arith, common_steps, e, w.enough, w.same)

pub returns : goal.returns
returns g c =
    let a = c.args in
    let e = over_zeros g.row.N _ a.at a.s.now c.min.ensures in
    grind (arith, common_steps, e)
