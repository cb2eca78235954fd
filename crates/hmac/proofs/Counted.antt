-- Block counts of HMAC, for any hash whose count c goes by the length alone.
use Prim.Native.Nat.{ℕ, ◌+◌, ◌≤◌, ◌<◌}
use mathlib.Core.Path.{◌≡◌, ◌∙◌, ap, ap₂}
use mathlib.Core.List.{List}
use lib.ListN.{length}
use borrow.Author.Tests.{le-leb, lt-leb}
use Rattle.hmac.specs.Hmac.{inner, outer}
use Rattle.hmac.specs.Count.{key_count, hmac_count}
use Rattle.hmac.proofs.Keyed.{inner_length, outer_length}

module _ (H : List ℕ → List ℕ) (B : ℕ) (N : List ℕ → ℕ) where
  pub key_count_short : (k : List ℕ) → length k ≤ B → key_count H B N k ≡ 0
  unfolding key_count
  key_count_short k l = rw (le-leb (length k) B l)

  pub key_count_long : (k : List ℕ) → B < length k → key_count H B N k ≡ N k
  unfolding key_count
  key_count_long k l = rw (lt-leb (length k) B l)

  -- the key's hash, the inner hash of B + n bytes, the outer hash of B + L bytes
  pub hmac_count_lengths : (c : ℕ → ℕ) → ((m : List ℕ) → N m ≡ c (length m)) → (L : ℕ) → ((m : List ℕ) → length (H m) ≡ L) → L ≤ B
      → (k m : List ℕ) → hmac_count H B N k m ≡ key_count H B N k + c (B + length m) + c (B + L)
  unfolding hmac_count
  hmac_count_lengths c by L sized small k m =
      ap₂ (λ (x y : ℕ). key_count H B N k + x + y)
      (by (inner H B k m) ∙ ap c (inner_length H B L sized small k m))
      (by (outer H B k m) ∙ ap c (outer_length H B L sized small k m))
