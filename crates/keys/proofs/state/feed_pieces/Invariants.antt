-- `feed_pieces` keeps its promise. Invariant: the pieces before the next one were given.
use Rattle.std.proofs.Common.{map, take}
use Rattle.hmac.specs.Pieces.{joined}
use Rattle.sha1_block.specs.Block.{sha1_hash}
use Rattle.running.specs.Given.{Given}
use Rattle.sha1_hmac.specs.View.{mac_state_of}
use Rattle.keys.proofs.state.feed_pieces.Given as goal

abbrev pub invariant-loop-piece : goal.invariant-loop-piece
invariant-loop-piece l = Given sha1_hash l.key (joined (take l.piece-index (map (λ p. p.now) l.pieces))) (mac_state_of l.mac)
