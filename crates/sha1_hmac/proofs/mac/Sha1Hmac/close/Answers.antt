-- `Sha1Hmac::close` keeps its promise: the inner code goes into the outer hash's last block.
use Rattle.sha1_block.specs.Block.{sha1_hash}
use Rattle.sha1_block.proofs.Laws.{sha1_sized}
use Rattle.sha1_hmac.specs.View.{mac_state_of}
use Rattle.running.proofs.Macs.{mac_close_law}
use Rattle.sha1_hmac.proofs.mac.Sha1Hmac.close.Goals as goal

pub returns : goal.returns
returns c =
    mac_close_law sha1_hash sha1_sized (mac_state_of c.args.self) _ _ _ _ _ c.close-code.ensures c.make_last_block-last.ensures c.blocks-2.ensures
    c.bytes.ensures
