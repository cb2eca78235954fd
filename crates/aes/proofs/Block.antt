-- Blocks stay blocks: each transformation of the state gives sixteen bytes.
use Prim.Native.Nat.{ℕ, ◌+◌, ◌*◌, ◌/◌, ◌%◌, ◌-◌, ◌<◌}
use mathlib.Core.Path.{◌≡◌, refl}
use mathlib.Core.List.{List}
use lib.Bits.{bit_xor}
use lib.ListN.{length, get_or}
use Rattle.octets.specs.Bytes.{Bytes}
use Rattle.sbox.specs.Substitution.{sub_byte, sub_bytes, unsub_byte, unsub_bytes}
use Rattle.octets.proofs.Xor.{xor_byte}
use Rattle.sbox.proofs.Sizes.{mul_byte, sub_byte_byte, unsub_byte_byte}
use Rattle.octets.proofs.Tab.{bytes_tab}
use Rattle.aes.specs.State.{at, row, shift_rows, unshift_rows, mix_row, unmix_row, mix_columns, unmix_columns, add_round_key}
use Rattle.aes.specs.Cipher.{cipher, inv_cipher}

pub record Block (s : List ℕ) : Type 0 where
  pub size : length s ≡ 16
  pub small : Bytes s

-- the substitutions give bytes whatever they are given
pub sub_block : (s : List ℕ) → Block (sub_bytes s)
unfolding sub_bytes
sub_block s = record { size = refl; small = bytes_tab 16 (λ i. sub_byte (get_or s i 0)) (λ i. sub_byte_byte (get_or s i 0)) }

pub unsub_block : (s : List ℕ) → Block (unsub_bytes s)
unfolding unsub_bytes
unsub_block s = record { size = refl; small = bytes_tab 16 (λ i. unsub_byte (get_or s i 0)) (λ i. unsub_byte_byte (get_or s i 0)) }

row_byte : (p q r s a b c d : ℕ) → a < 256 → b < 256 → c < 256 → d < 256 → row p q r s a b c d < 256
unfolding row
row_byte p q r s a b c d ha hb hc hd =
    xor_byte _ _ (xor_byte _ _ (mul_byte p a ha) (mul_byte q b hb)) (xor_byte _ _ (mul_byte r c hc) (mul_byte s d hd))

module _ (s : List ℕ) (h : Bytes s) where
  at_byte : (r c : ℕ) → at s r c < 256
  unfolding at
  at_byte r c = h (r % 4 + 4 * (c % 4))

  pub shift_block : Block (shift_rows s)
  unfolding shift_rows
  shift_block = record { size = refl; small = bytes_tab 16 (λ i. at s i (i / 4 + i % 4)) (λ i. at_byte i (i / 4 + i % 4)) }

  pub unshift_block : Block (unshift_rows s)
  unfolding unshift_rows
  unshift_block = record { size = refl; small = bytes_tab 16 (λ i. at s i (i / 4 + 4 - i % 4)) (λ i. at_byte i (i / 4 + 4 - i % 4)) }

  pub mix_block : Block (mix_columns s)
  unfolding mix_columns mix_row
  mix_block = record {
    size = refl;
    small = bytes_tab 16 (λ i. mix_row (at s i (i / 4)) (at s (i + 1) (i / 4)) (at s (i + 2) (i / 4)) (at s (i + 3) (i / 4)))
        (λ i. row_byte 2 3 1 1 _ _ _ _ (at_byte i (i / 4)) (at_byte (i + 1) (i / 4)) (at_byte (i + 2) (i / 4)) (at_byte (i + 3) (i / 4)));
  }

  pub unmix_block : Block (unmix_columns s)
  unfolding unmix_columns unmix_row
  unmix_block = record {
    size = refl;
    small = bytes_tab 16 (λ i. unmix_row (at s i (i / 4)) (at s (i + 1) (i / 4)) (at s (i + 2) (i / 4)) (at s (i + 3) (i / 4)))
        (λ i. row_byte 14 11 13 9 _ _ _ _ (at_byte i (i / 4)) (at_byte (i + 1) (i / 4)) (at_byte (i + 2) (i / 4)) (at_byte (i + 3) (i / 4)));
  }

module _ (w : List ℕ) (hw : Bytes w) where
  pub add_block : (n : ℕ) (s : List ℕ) → Bytes s → Block (add_round_key w n s)
  unfolding add_round_key
  add_block n s h = record {
    size = refl;
    small = bytes_tab 16 (λ i. bit_xor (get_or s i 0) (get_or w (16 * n + i) 0))
        (λ i. xor_byte (get_or s i 0) (get_or w (16 * n + i) 0) (h i) (hw (16 * n + i)));
  }

  -- the cipher and the inverse cipher give blocks whatever they are given
  pub cipher_block : (s : List ℕ) → Block (cipher w s)
  unfolding cipher
  cipher_block s = add_block 10 _ (shift_block _ (sub_block _).small).small

  pub inv_cipher_block : (s : List ℕ) → Block (inv_cipher w s)
  unfolding inv_cipher
  inv_cipher_block s = add_block 0 _ (unsub_block _).small
