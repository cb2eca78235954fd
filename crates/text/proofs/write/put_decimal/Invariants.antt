-- `put_decimal` keeps its promise: what is left of the number and the digits that stand already are the whole of it.
use Prim.Native.Nat.{◌≤◌}
use mathlib.Core.List.{◌++◌}
use mathlib.Core.Path.{◌≡◌}
use lib.ListN.{length, drop}
use Rattle.text.specs.Digits.{decimal}
use Rattle.text.proofs.write.put_decimal.Given as goal

abbrev pub invariant-loop-rest : goal.invariant-loop-rest
invariant-loop-rest l =
    (length (decimal l.rest) ≤ l.at) × (l.at ≤ 20) × (length l.out ≡ 20) × (decimal l.n ≡ decimal l.rest ++ drop l.at l.out)

abbrev pub decreases-loop-rest : goal.decreases-loop-rest
decreases-loop-rest l = l.rest
