-- Each piece has at least one byte, so fewer are left.
use Rattle.std.proofs.Common.{◌<◌}
use Rattle.sha1_million.proofs.feed.Given as goal

abbrev pub invariant-loop-left : goal.invariant-loop-left
invariant-loop-left g l = l.turn < 997

abbrev pub decreases-loop-left : goal.decreases-loop-left
decreases-loop-left g l = l.left
