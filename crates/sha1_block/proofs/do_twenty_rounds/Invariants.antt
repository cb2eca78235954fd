-- `do_twenty_rounds` keeps its promise. Invariant: t rounds from s on are done.
use Rattle.std.proofs.Common.{◌≡◌}
use Rattle.sha1_block.specs.Turns.{turns}
use Rattle.sha1_block.proofs.do_twenty_rounds.Given as goal

abbrev pub invariant-loop-t : goal.invariant-loop-t
invariant-loop-t l = (l.v ≡ turns l.s l.t l.w l.initial.v)
