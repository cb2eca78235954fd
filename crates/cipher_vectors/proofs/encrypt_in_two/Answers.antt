-- `encrypt_in_two` keeps its promise, by the law for encryption.
use Rattle.std.proofs.Common.{refl, ◌∙◌, ap, length}
use Rattle.cbc.specs.Cbc.{cbc_encrypt}
use Rattle.cbc.specs.Halves.{after_encrypt}
use Rattle.cbc.proofs.Inverse.{encrypt_length}
use Rattle.cbc.proofs.Halves.{encrypt_halves}
use Rattle.cipher_vectors.proofs.InTwo.{front_whole, in_two}
use Rattle.cipher_vectors.proofs.encrypt_in_two.Goals as goal

pub returns : goal.returns
returns c =
    let p = c.encrypt_and_hand_on-next.ensures in
    let e = ap length p.made ∙ encrypt_length _ _ _ (front_whole _ _ c.requires) in
    in_two (cbc_encrypt c.args.key) (after_encrypt c.args.key) _ _ _ _ _ _ _ _ (encrypt_halves _ _) c.requires p e refl
    c.cbc_encrypt.ensures
