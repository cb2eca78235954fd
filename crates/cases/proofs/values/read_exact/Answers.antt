-- `read_exact` keeps its promise: exactly N bytes were read where `unhex` tells N.
use Rattle.std.proofs.Common.{◌≡◌, ◌∙◌, List, ℕ, Ok, Some, ap, arith}
use Rattle.std.proofs.lemmas.Grind.{common_steps}
use Rattle.cases.specs.Values.{ExactPromise}
use Rattle.cases.proofs.Reading.{exact_yes, exact_along}
use Rattle.cases.proofs.values.read_exact.Goals as goal

-- a promise kept by some bytes is kept by bytes that are equal
kept : (n : ℕ) (s x y : List ℕ) → x ≡ y → ExactPromise n s (Some x) → ExactPromise n s (Some y)
kept n s x y e p = rw e at p

pub returns-in-Ok : goal.returns-in-Ok
returns-in-Ok g c =
    let p = exact_yes g.row.N _ _ _ c.unhex.ensures (c.in-Ok.is ∙ ap Ok (omega (arith, c.if-n.true))) in
    kept _ _ _ _ (grind (arith, common_steps)) (exact_along _ _ _ _ c.pick_field.ensures.0 p)
