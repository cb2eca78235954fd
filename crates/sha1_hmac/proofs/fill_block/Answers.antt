-- `fill_block` keeps its promise: the bytes that wait, and s behind them, put into zeros.
use Rattle.running.proofs.Rooms.{fill_block_law}
use Rattle.sha1_hmac.proofs.fill_block.Goals as goal

pub returns : goal.returns
returns c = fill_block_law _ _ _ _ _ _ c.requires c.put.ensures c.put-2.ensures
