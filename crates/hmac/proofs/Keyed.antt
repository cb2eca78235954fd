-- Lengths and bytes of what HMAC hashes, for any hash H with codes of L bytes and blocks of B bytes.
use Prim.Native.Nat.{ℕ, suc, ◌+◌, ◌-◌, ◌≤◌, ◌<◌}
use native.Mathlib.Omega.{arith}
use mathlib.Core.Bool.{Bool, true, false, cond}
use mathlib.Core.Path.{◌≡◌, refl, ◌∙◌, ap}
use mathlib.Core.List.{List, [], ◌∷◌, ◌++◌}
use lib.ListN.{length, replicate, length-append, length-replicate}
use lib.Bits.{bit_xor}
use lib.Dec.{leb}
use borrow.Author.Tests.{leb-true, le-leb, lt-leb}
use Rattle.octets.specs.Bytes.{Bytes}
use Rattle.octets.specs.Place.{filled}
use Rattle.hmac.specs.Hmac.{xored, key_of, key_block, inner, outer, hmac}

pub length-xored : (x : ℕ) (l : List ℕ) → length (xored x l) ≡ length l
unfolding xored
length-xored x [] = refl
length-xored x (b ∷ l) = ap suc (length-xored x l)

-- a list xored up to i has one byte more xored
pub xored-snoc : (x b : ℕ) (l : List ℕ) → xored x (l ++ (b ∷ [])) ≡ xored x l ++ (bit_xor b x ∷ [])
unfolding xored
xored-snoc x b [] = refl
xored-snoc x b (a ∷ l) = ap (λ (t : List ℕ). bit_xor a x ∷ t) (xored-snoc x b l)

module _ (H : List ℕ → List ℕ) (B L : ℕ) (sized : (m : List ℕ) → length (H m) ≡ L) (small : L ≤ B) where
  short_length : (b : Bool) (k h : List ℕ) → (b ≡ true → length k ≤ B) → length h ≤ B → length (cond b k h) ≤ B
  short_length true k h f g = f refl
  short_length false k h f g = g

  pub key_length : (k : List ℕ) → length (key_block H B k) ≡ B
  unfolding key_block filled
  key_length k =
      let s : length (key_of H B k) ≤ B = short_length (leb (length k) B) k (H k) (leb-true (length k) B) (omega (arith, sized k)) in
      length-append (key_of H B k) (replicate (B - length (key_of H B k)) 0)
      ∙ rw (length-replicate {A = ℕ} (B - length (key_of H B k)) 0) (omega arith)

  pub inner_length : (k m : List ℕ) → length (inner H B k m) ≡ B + length m
  unfolding inner
  inner_length k m = length-append (xored 0x36 (key_block H B k)) m ∙ rw (length-xored 0x36 (key_block H B k), key_length k)

  pub outer_length : (k m : List ℕ) → length (outer H B k m) ≡ B + L
  unfolding outer
  outer_length k m =
      length-append (xored 0x5c (key_block H B k)) (H (inner H B k m))
      ∙ rw (length-xored 0x5c (key_block H B k), key_length k, sized (inner H B k m))

  -- a code has the hash's length
  pub hmac-length : (k m : List ℕ) → length (hmac H B k m) ≡ L
  unfolding hmac
  hmac-length k m = sized (outer H B k m)

-- a code is made of bytes where the hash's answers are
pub hmac_bytes : (H : List ℕ → List ℕ) (B : ℕ) → ((m : List ℕ) → Bytes (H m)) → (k m : List ℕ) → Bytes (hmac H B k m)
unfolding hmac
hmac_bytes H B b k m = b (outer H B k m)

-- the key's block, by the key's length
pub key_short : (H : List ℕ → List ℕ) (B : ℕ) (k : List ℕ) → length k ≤ B → key_block H B k ≡ filled B k
unfolding key_block
key_short H B k l = rw (le-leb (length k) B l)

pub key_long : (H : List ℕ → List ℕ) (B : ℕ) (k : List ℕ) → B < length k → key_block H B k ≡ filled B (H k)
unfolding key_block
key_long H B k l = rw (lt-leb (length k) B l)
