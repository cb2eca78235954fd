-- HMAC: RFC 2104, section 2, over any hash H on lists of bytes, whose blocks have B bytes.
use Rattle.std.specs.Prelude.{ℕ, cond, List, [], ◌∷◌, ◌++◌, length, leb}
use Rattle.std.specs.Int.Bits.{bit_xor}
use Rattle.octets.specs.Place.{filled}

-- each byte of l xored with x
unfoldable pub xored : ℕ → List ℕ → List ℕ
xored x [] = []
xored x (b ∷ l) = bit_xor b x ∷ xored x l

module _ (H : List ℕ → List ℕ) (B : ℕ) where
  -- a key of more than B bytes is hashed first
  abbrev pub key_of : List ℕ → List ℕ
  key_of k = cond (leb (length k) B) k (H k)

  -- step 1: zeros behind the key up to B bytes
  unfoldable pub key_block : List ℕ → List ℕ
  key_block k = filled B (key_of k)

  -- steps 2 and 3: what the inner hash is given
  unfoldable pub inner : List ℕ → List ℕ → List ℕ
  inner k m = xored 0x36 (key_block k) ++ m

  -- steps 4 to 6: what the outer hash is given
  unfoldable pub outer : List ℕ → List ℕ → List ℕ
  outer k m = xored 0x5c (key_block k) ++ H (inner k m)

  -- step 7
  unfoldable pub hmac : List ℕ → List ℕ → List ℕ
  hmac k m = H (outer k m)
