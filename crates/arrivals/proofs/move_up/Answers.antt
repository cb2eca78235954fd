-- `move_up` keeps its promise where the marks move past the last: one mark alone.
use Rattle.arrivals.proofs.Taking.{moved_far}
use Rattle.arrivals.proofs.move_up.Goals as goal

pub returns-then-d-gt31 : goal.returns-then-d-gt31
returns-then-d-gt31 c = moved_far _ _ c.if-d-gt31.true
