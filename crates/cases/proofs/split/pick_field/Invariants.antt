-- `pick_field` keeps its promise: the place goes on behind one separator with each turn.
use Prim.Native.Nat.{◌≤◌}
use mathlib.Core.Path.{◌≡◌}
use lib.ListN.{length, drop}
use Rattle.cases.specs.Fields.{behind}
use Rattle.cases.proofs.split.pick_field.Given as goal

abbrev pub invariant-loop : goal.invariant-loop
invariant-loop l = (l.at ≤ length l.line) × (drop l.at l.line ≡ behind 0x20 l.counter l.line)
