-- `absorb_blocks` keeps its promise: nothing waits, and the whole blocks are those of the piece.
use Rattle.std.proofs.Common.{arith}
use Rattle.sha1_block.specs.Block.{sha1_hash}
use Rattle.sha1_hmac.specs.View.{state_of}
use Rattle.running.proofs.Takes.{absorb_blocks_law}
use Rattle.sha1_hmac.proofs.Sha1.absorb_blocks.Goals as goal

pub returns : goal.returns
returns c =
    let a = c.args in
    absorb_blocks_law sha1_hash (state_of a.self) a.s.now _ _ (omega arith) c.fill_block.ensures c.blocks-2.ensures
