-- `decrypt_block` keeps its promise: a block of the plain text is made from the two blocks that meet at its start.
use Prim.Native.Nat.{◌-◌}
use native.Mathlib.Omega.{arith}
use mathlib.Core.Path.{ap, ap₂, ◌∙◌}
use Rattle.octets.proofs.Filled.{filled-part}
use Rattle.aes.specs.Schedule.{keys_of}
use Rattle.aes.specs.Cipher.{inv_cipher}
use Rattle.cbc.specs.Cbc.{xor_block}
use Rattle.reader.proofs.Chained.{body_block}
use Rattle.reader.proofs.body.decrypt_block.Goals as goal

pub returns : goal.returns
returns c =
    let a = c.args in
    let p = c.requires in
    c.xor_block.ensures ∙ ap₂ xor_block
    (c.decrypt_block-plain.ensures ∙ ap (inv_cipher (keys_of a.w))
    (c.cut.ensures ∙ filled-part 16 a.body.now a.at p.2))
    (c.cut-2.ensures ∙ filled-part 16 a.body.now (a.at - 16) (omega arith)) ∙ body_block (keys_of a.w) a.body.now a.at
    p.0 p.1 p.2
