-- `same` keeps its promise: after each turn the sum of differences is zero exactly where the bytes so far are equal.
use Rattle.std.proofs.Common.{◌≡◌, eqb, length, take}
use Rattle.octets.specs.Equal.{same}
use Rattle.octets.proofs.same.Given as goal

abbrev pub invariant-loop-x : goal.invariant-loop-x
invariant-loop-x l = eqb l.d 0 ≡ same (take (length l.yielded) l.a) (take (length l.yielded) l.b)
