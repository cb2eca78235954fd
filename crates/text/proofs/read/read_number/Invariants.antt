-- `read_number` keeps its promise: the number so far and what is left to read are the number of the whole.
use Prim.Native.Nat.{◌≤◌}
use mathlib.Core.Path.{◌≡◌}
use lib.ListN.{drop}
use Rattle.text.specs.Promise.{number_in}
use Rattle.text.proofs.Reading.{left}
use Rattle.text.proofs.read.read_number.Given as goal

abbrev pub invariant-loop-c : goal.invariant-loop-c
invariant-loop-c l = (l.v ≤ l.most) × (left l.base l.most l.v (drop l.c-index l.s) ≡ number_in l.base l.most l.s)
