-- `write_encrypted` keeps its promise: three puts one behind the other, then the part lent is encrypted where it stands.
use Prim.Native.Nat.{ℕ, ◌+◌, ◌%◌}
use native.Mathlib.Omega.{arith}
use mathlib.Core.List.{◌++◌}
use mathlib.Core.Path.{◌≡◌, ap, ◌∙◌}
use lib.ListN.{length}
use Rattle.octets.specs.Place.{pasted}
use Rattle.cbc.specs.Cbc.{cbc_encrypt}
use Rattle.cbc.proofs.Inverse.{encrypt_length}
use Rattle.keys.specs.Keys.{aes_key_of}
use Rattle.framing.specs.Packet.{plain_of}
use Rattle.framing.proofs.Complete.{length-plain}
use Rattle.framing.proofs.RoundTrip.{p_serves}
use Rattle.framing.proofs.Fills.{aes_written}
use borrow.Author.Rules.{rules}
use Rattle.writer.proofs.write_encrypted.Goals as goal

pub returns : goal.returns
returns c =
    let a = c.args in
    let iv_size : length a.m.iv ≡ 16 = search rules in
    let x = a.m.payload.now in
    let p = c.choose_p-p.result in
    let ep = c.choose_p-p.ensures in
    let whole : length (plain_of x p) % 16 ≡ 0
    = ap (λ (k : ℕ). k % 16) (length-plain x p) ∙ ap (λ (q : ℕ). (length x + q + 1) % 16) ep ∙ p_serves (length x) in
    aes_written cbc_encrypt encrypt_length a.out.now a.m.iv x _ _ _ _ _ _ p _ _ iv_size (omega (arith, c.requires)) whole c.put.ensures
    c.put-2.ensures c.put_pad.ensures c.encrypt.ensures c.aes_key.ensures
    ∙ ap (λ (q : ℕ). pasted a.out.now 12 (a.m.iv ++ cbc_encrypt (aes_key_of a.s.keys) a.m.iv (plain_of x q))) ep
