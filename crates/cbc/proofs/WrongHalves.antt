-- Two laws that are easily taken for the right ones. Each is false under every key and every IV.
use Prim.Native.Nat.{ℕ, ◌%◌}
use native.Mathlib.Omega.{arith}
use mathlib.Core.Path.{◌≡◌, refl, sym, ◌∙◌, ap}
use mathlib.Core.List.{List, [], ◌++◌, append-nil, append_cancel_left}
use lib.Bits.{bit_xor, xor_zero_l, xor_zero_r, xor_self}
use lib.ListN.{length, get_or, take, replicate, length-append}
use Rattle.octets.specs.Bytes.{Bytes}
use Rattle.octets.proofs.Bytes.{bytes_append, bytes_replicate}
use Rattle.octets.proofs.Xor.{xor_assoc}
use Rattle.aes.specs.Cipher.{cipher, inv_cipher}
use Rattle.aes.specs.Key.{key_expansion}
use Rattle.aes.proofs.Inverse.{inv_cipher-cipher}
use Rattle.aes.proofs.KeyBytes.{expansion_bytes}
use Rattle.cbc.specs.Cbc.{xor_block, encrypt_blocks, decrypt_blocks, cbc_encrypt, cbc_decrypt}
use Rattle.cbc.specs.Halves.{handed_on, after_encrypt, after_decrypt, ByHalves}
use Rattle.cbc.proofs.Inverse.{decrypt_length, encrypt_decrypt}
use Rattle.cbc.proofs.Halves.{handed_last, encrypt_halves, decrypt_halves}

abbrev zeros : List ℕ
zeros = replicate 16 0

abbrev ones : List ℕ
ones = replicate 16 1

zeros≢ones : zeros ≡ ones → ⊥
zeros≢ones e =
    let z : ◌≡◌ {A = ℕ} 0 1 = ap (λ (l : List ℕ). get_or l 0 0) e in
    omega arith

-- where two laws hold of f, the block that either hands on makes the same of what follows
same-behind : (f after other : List ℕ → List ℕ → List ℕ) (iv a b : List ℕ) → length a % 16 ≡ 0 → length b % 16 ≡ 0
    → ByHalves f after iv → ByHalves f other iv → f (after iv a) b ≡ f (other iv a) b
same-behind f after other iv a b h g p q = append_cancel_left (f iv a) _ _ (sym (p a b h g) ∙ q a b h g)

encrypt_zeros : (key v s : List ℕ) → xor_block zeros v ≡ s → cbc_encrypt key v zeros ≡ cipher (key_expansion key) s
unfolding cbc_encrypt encrypt_blocks
encrypt_zeros key v s e = append-nil _ ∙ ap (cipher (key_expansion key)) e

decrypt_zeros : (key v : List ℕ) → cbc_decrypt key v zeros ≡ xor_block (inv_cipher (key_expansion key) zeros) v
unfolding cbc_decrypt decrypt_blocks
decrypt_zeros key v = append-nil _

-- the second half under the first's first cipher block
pub first_block_wrong : (key iv : List ℕ) → Bytes key → ByHalves (cbc_encrypt key) (λ v a. take 16 (cbc_encrypt key v a ++ v)) iv → ⊥
unfolding handed_on xor_block
first_block_wrong key iv hk wrong =
    let w : List ℕ = key_expansion key in
    let c : List ℕ = zeros ++ ones in
    let a : List ℕ = cbc_decrypt key iv c in
    let hz : Bytes zeros = bytes_replicate 16 0 (omega arith) in
    let ho : Bytes ones = bytes_replicate 16 1 (omega arith) in
    let e : cbc_encrypt key iv a ≡ c = encrypt_decrypt key iv hk c refl (bytes_append zeros ones hz ho) in
    let s = same-behind (cbc_encrypt key) (λ v x. take 16 (cbc_encrypt key v x ++ v)) (after_encrypt key) iv a zeros
    (ap (λ (n : ℕ). n % 16) (decrypt_length key iv c refl)) refl wrong (encrypt_halves key iv) in
    let t : cipher w zeros ≡ cipher w ones =
    sym (encrypt_zeros key zeros zeros refl)
    ∙ ap (λ (x : List ℕ). cbc_encrypt key (take 16 (x ++ iv)) zeros) (sym e) ∙ s ∙ ap (λ (x : List ℕ). cbc_encrypt key (handed_on iv x) zeros) e
    ∙ encrypt_zeros key ones ones refl in
    zeros≢ones (sym (inv_cipher-cipher w (expansion_bytes key hk) zeros refl hz) ∙ ap (inv_cipher w) t
    ∙ inv_cipher-cipher w (expansion_bytes key hk) ones refl ho)

-- decryption's second half under the last block of the first's result: every first block c would begin as the inverse cipher of zeros does
begins : (key iv : List ℕ) → ByHalves (cbc_decrypt key) (λ v a. handed_on v (cbc_decrypt key v a)) iv
    → (c : List ℕ) → length c ≡ 16 → get_or c 0 0 ≡ get_or (inv_cipher (key_expansion key) zeros) 0 0
unfolding xor_block
begins key iv wrong c h =
    let p : List ℕ = inv_cipher (key_expansion key) zeros in
    let l : length (c ++ zeros) % 16 ≡ 0 = omega (arith, length-append c zeros) in
    let e : cbc_decrypt key iv (c ++ zeros) ≡ cbc_decrypt key iv c ++ xor_block p c =
    decrypt_halves key iv c zeros (ap (λ (n : ℕ). n % 16) h) refl
    ∙ ap (λ (x : List ℕ). cbc_decrypt key iv c ++ x) (decrypt_zeros key (handed_on iv c) ∙ ap (xor_block p) (handed_last iv [] c h)) in
    let g : handed_on iv (cbc_decrypt key iv (c ++ zeros)) ≡ xor_block p c = ap (handed_on iv) e ∙ handed_last iv (cbc_decrypt key iv c) (xor_block p c) refl in
    let s : xor_block p (xor_block p c) ≡ xor_block p zeros =
    ap (xor_block p) (sym g) ∙ sym (decrypt_zeros key _)
    ∙ same-behind (cbc_decrypt key) (λ v x. handed_on v (cbc_decrypt key v x)) (after_decrypt key) iv (c ++ zeros) zeros l refl wrong (decrypt_halves key iv)
    ∙ decrypt_zeros key _ ∙ ap (xor_block p) (handed_last iv c zeros refl) in
    let x : ℕ = get_or p 0 0 in
    let y : ℕ = get_or c 0 0 in
    sym (sym (xor_assoc x x y) ∙ ap (λ (k : ℕ). bit_xor k y) (xor_self x) ∙ xor_zero_l y) ∙ ap (λ (b : List ℕ). get_or b 0 0) s ∙ xor_zero_r x

pub result_wrong : (key iv : List ℕ) → ByHalves (cbc_decrypt key) (λ v a. handed_on v (cbc_decrypt key v a)) iv → ⊥
result_wrong key iv wrong =
    let z : ◌≡◌ {A = ℕ} 0 1 = begins key iv wrong zeros refl ∙ sym (begins key iv wrong ones refl) in
    omega arith
