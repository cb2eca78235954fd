-- How many blocks HMAC compresses: the sum over the hashes that RFC 2104, section 2, takes. N tells it of one hash.
use Rattle.std.specs.Prelude.{ℕ, ◌+◌, ◌-◌, ◌/◌, cond, List, length, leb}
use Rattle.hmac.specs.Hmac.{inner, outer}

module _ (H : List ℕ → List ℕ) (B : ℕ) (N : List ℕ → ℕ) where
  -- nothing for a key that stands as it is, else what its hash took
  unfoldable pub key_count : List ℕ → ℕ
  key_count k = cond (leb (length k) B) 0 (N k)

  unfoldable pub hmac_count : List ℕ → List ℕ → ℕ
  hmac_count k m = key_count k + N (inner H B k m) + N (outer H B k m)

-- a / b, rounded up
abbrev pub ceiling : ℕ → ℕ → ℕ
ceiling a b = (a + (b - 1)) / b
