-- One block of the plain text of an encrypted body, by the block itself and the one before it (SP 800-38A, section 6.2), over
-- any round keys: cbc's law, where the IV stands before the blocks in one list.
use Prim.Native.Nat.{ℕ, suc, ◌+◌, ◌-◌, ◌*◌, ◌/◌, ◌%◌, ◌≤◌, ◌<◌}
use native.Mathlib.Omega.{arith}
use mathlib.Core.List.{List}
use mathlib.Core.Path.{◌≡◌, sym, ◌∙◌, ap, ap₂}
use lib.ListN.{length, take, drop, length-drop}
use Rattle.octets.specs.Place.{part}
use Rattle.aes.specs.Cipher.{inv_cipher}
use Rattle.cbc.specs.Cbc.{xor_block}
use Rattle.cbc.proofs.Blocks.{before, part_on, before_on, plain_block_over}
use Rattle.reader.specs.Uncbc.{uncbc}

pub body_block : (w b : List ℕ) (at : ℕ) → 16 ≤ at → at % 16 ≡ 0 → at + 16 ≤ length b
    → xor_block (inv_cipher w (part b at 16)) (part b (at - 16) 16) ≡ part (uncbc w (take 16 b) (drop 16 b)) (at - 16) 16
unfolding uncbc before
body_block w b at h g k =
    let j : ℕ = at / 16 - 1 in
    let here : at ≡ 16 * suc (at / 16 - 1) = omega arith in
    let there : at - 16 ≡ 16 * (at / 16 - 1) = omega arith in
    let few : at / 16 - 1 < length (drop 16 b) / 16 = omega (arith, length-drop 16 b) in
    ap₂ (λ (x y : List ℕ). xor_block (inv_cipher w x) y)
    (ap (λ (x : ℕ). part b x 16) here ∙ sym (part_on b j))
    (ap (λ (x : ℕ). part b x 16) there ∙ sym (before_on (take 16 b) b j))
    ∙ sym (plain_block_over w (take 16 b) (drop 16 b) j few)
    ∙ ap (λ (x : ℕ). part (uncbc w (take 16 b) (drop 16 b)) x 16) (sym there)
