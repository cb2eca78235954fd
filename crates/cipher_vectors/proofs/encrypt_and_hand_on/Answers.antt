-- `encrypt_and_hand_on` keeps its promise: whole blocks are not refused, and the block is taken from what the call left.
use Rattle.std.proofs.Common.{◌∙◌, ap}
use Rattle.cbc.specs.Halves.{handed_on}
use Rattle.cbc.proofs.Promise.{cbc_done}
use Rattle.cipher_vectors.proofs.encrypt_and_hand_on.Goals as goal

pub returns : goal.returns
returns c =
    let e = cbc_done _ _ _ _ c.requires c.cbc_encrypt.ensures in
    record { made = e; handed = c.hand_on.ensures ∙ ap (handed_on c.args.iv) e }
