-- `decrypt_in_two` keeps its promise, by the law for decryption.
use Rattle.std.proofs.Common.{refl, ◌∙◌, ap, length}
use Rattle.cbc.specs.Cbc.{cbc_decrypt}
use Rattle.cbc.specs.Halves.{after_decrypt}
use Rattle.cbc.proofs.Inverse.{decrypt_length}
use Rattle.cbc.proofs.Halves.{decrypt_halves}
use Rattle.cipher_vectors.proofs.InTwo.{front_whole, in_two}
use Rattle.cipher_vectors.proofs.decrypt_in_two.Goals as goal

pub returns : goal.returns
returns c =
    let p = c.decrypt_and_hand_on-next.ensures in
    let e = ap length p.made ∙ decrypt_length _ _ _ (front_whole _ _ c.requires) in
    in_two (cbc_decrypt c.args.key) (after_decrypt c.args.key) _ _ _ _ _ _ _ _ (decrypt_halves _ _) c.requires p e refl
    c.cbc_decrypt.ensures
