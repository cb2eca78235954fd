-- `decrypt_and_hand_on` keeps its promise: whole blocks are not refused, and the block is taken from what the call was lent.
use Rattle.cbc.proofs.Promise.{cbc_done}
use Rattle.cipher_vectors.proofs.decrypt_and_hand_on.Goals as goal

pub returns : goal.returns
returns c = record { made = cbc_done _ _ _ _ c.requires c.cbc_decrypt.ensures; handed = c.hand_on-next.ensures }
