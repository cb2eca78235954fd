-- `make_key_block` keeps its promise: a short key stands as it is, a long one is hashed.
use Rattle.std.proofs.Common.{arith}
use Rattle.sha1_block.specs.Block.{sha1_hash}
use Rattle.sha1_block.proofs.Laws.{sha1_sized}
use Rattle.running.proofs.Macs.{key_block_short, key_block_long}
use Rattle.sha1_hmac.proofs.mac.make_key_block.Goals as goal

pub returns-then-key-le64 : goal.returns-then-key-le64
returns-then-key-le64 c = key_block_short sha1_hash sha1_sized c.args.key.now _ (omega arith) c.fill_block.ensures

pub returns : goal.returns
returns c =
    key_block_long sha1_hash sha1_sized c.args.key.now _ _ _ _ _ (omega arith) (omega arith) c.new.ensures c.absorb.ensures
    c.close-short.ensures c.fill_block-2.ensures
