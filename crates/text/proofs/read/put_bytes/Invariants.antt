-- `put_bytes` keeps its promise: after i turns the first i pairs stand as bytes.
use Prim.Native.Nat.{◌*◌}
use mathlib.Core.Path.{◌≡◌}
use lib.ListN.{take}
use Rattle.octets.specs.Place.{pasted}
use Rattle.text.specs.Digits.{pairs}
use Rattle.text.proofs.read.put_bytes.Given as goal

abbrev pub invariant-loop-i : goal.invariant-loop-i
invariant-loop-i l = l.out ≡ pasted l.initial.out l.at (pairs (take (2 * l.i) l.s))
