-- `decrypt_body` keeps its promise: the part lent is the one between the IV and the trailer.
use Prim.Native.Nat.{◌+◌, ◌≤◌}
use native.Mathlib.Omega.{arith}
use mathlib.Core.Path.{◌∙◌}
use lib.ListN.{length}
use Rattle.octets.proofs.Filled.{filled-part}
use Rattle.cbc.specs.Cbc.{cbc_decrypt}
use Rattle.cbc.proofs.Inverse.{decrypt_length}
use Rattle.framing.proofs.InPlace.{body_in_place}
use Rattle.frame.proofs.opening.decrypt_body.Goals as goal

pub returns : goal.returns
returns c =
    let h : 12 + 16 ≤ length c.args.packet.now = omega (arith, c.requires.0, c.requires.2) in
    body_in_place cbc_decrypt decrypt_length _ _ _ _ _ _ c.requires (c.from-n.ensures ∙ c.load_le2.ensures) c.aes_key.ensures
    (c.cut-iv.ensures ∙ filled-part 16 c.args.packet.now 12 h)
    c.decrypt.ensures
