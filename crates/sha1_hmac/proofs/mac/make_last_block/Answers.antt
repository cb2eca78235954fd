-- `make_last_block` keeps its promise: the code in front of its padding.
use Rattle.std.proofs.Common.{◌≡◌, length, rules}
use Rattle.sha1_block.specs.Block.{sha1_hash}
use Rattle.sha1_hmac.proofs.Laws.{last_law}
use Rattle.sha1_hmac.proofs.mac.make_last_block.Goals as goal

pub returns : goal.returns
unfolding sha1_hash
returns c =
    let l : length c.args.digest ≡ 20 = search rules in
    last_law _ _ _ l c.put.ensures
