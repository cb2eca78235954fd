-- What a look at the last blocks of an encrypted body tells of the whole plain text.
use Prim.Native.Nat.{ℕ, ◌+◌, ◌-◌, ◌%◌, ◌≤◌, ◌<◌}
use native.Mathlib.Omega.{arith}
use mathlib.Core.Bool.{Bool}
use mathlib.Core.List.{List}
use mathlib.Core.Path.{◌≡◌, ◌∙◌, ap}
use lib.ListN.{length, get_or, take, drop, length-drop}
use Rattle.octets.specs.Place.{part}
use Rattle.octets.specs.Equal.{same}
use Rattle.framing.specs.Packet.{counting}
use Rattle.reader.specs.Uncbc.{uncbc}
use Rattle.aes.specs.Key.{key_expansion}
use Rattle.cbc.specs.Cbc.{cbc_decrypt}
use Rattle.cbc.proofs.Inverse.{decrypt_length}
use Rattle.framing.proofs.Body.{part-part, last_byte}

-- round keys k that are those of the key, and a body l
module _ (k key l : List ℕ) (e : k ≡ key_expansion key) (h : 32 ≤ length l) (g : length l % 16 ≡ 0) where
  abbrev plain : List ℕ
  plain = cbc_decrypt key (take 16 l) (drop 16 l)

  by_keys : uncbc k (take 16 l) (drop 16 l) ≡ plain
  unfolding uncbc cbc_decrypt
  by_keys = ap (λ (w : List ℕ). uncbc w (take 16 l) (drop 16 l)) e

  pub peek_size : length (cbc_decrypt key (take 16 l) (drop 16 l)) ≡ length l - 16
  peek_size =
      let rest : length (drop 16 l) ≡ length l - 16 = length-drop 16 l in
      let whole : length (drop 16 l) % 16 ≡ 0 = omega arith in
      decrypt_length key (take 16 l) (drop 16 l) whole ∙ rest

  pub peek_last : (z : List ℕ) (p : ℕ) → z ≡ part (uncbc k (take 16 l) (drop 16 l)) (length l - 16 - 16) 16 → p ≡ get_or z 15 0
      → p ≡ get_or (cbc_decrypt key (take 16 l) (drop 16 l)) (length l - 16 - 1) 0
  peek_last z p f q = q ∙ last_byte plain z (length l - 16) (omega arith) (f ∙ ap (λ (x : List ℕ). part x (length l - 16 - 16) 16) by_keys)

  pub peek_tail : (z : List ℕ) (b : Bool) (p t : ℕ) → t + 16 ≤ length l → p < t → take t z ≡ part (uncbc k (take 16 l) (drop 16 l)) (length l - 16 - t) t
      → b ≡ same (part z (t - 1 - p) p) (counting p) → b ≡ same (part (cbc_decrypt key (take 16 l) (drop 16 l)) (length l - 16 - 1 - p) p) (counting p)
  peek_tail z b p t i j f q =
      let at : length l - 16 - t + (t - 1 - p) ≡ length l - 16 - 1 - p = omega arith in
      q ∙ ap (λ (x : List ℕ). same x (counting p))
      (part-part plain z (length l - 16 - t) (t - 1 - p) p t (omega arith) (f ∙ ap (λ (x : List ℕ). part x (length l - 16 - t) t) by_keys)
      ∙ ap (λ (n : ℕ). part plain n p) at)
