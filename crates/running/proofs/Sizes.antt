-- Sizes of a hash's answers, and its number of blocks as a formula of the length.
use Prim.Native.Nat.{ℕ, ◌+◌, ◌/◌, ◌%◌, ◌≤◌, ◌<◌}
use native.Mathlib.Omega.{arith}
use mathlib.Core.Path.{◌≡◌, refl, ◌∙◌}
use mathlib.Core.List.{List, ◌++◌}
use lib.ListN.{length, length-append}
use Rattle.octets.specs.Bytes.{Bytes}
use Rattle.hmac.specs.Count.{ceiling, key_count}
use Rattle.hmac.proofs.Keyed.{hmac-length, hmac_bytes}
use Rattle.hmac.proofs.Counted.{hmac_count_lengths, key_count_short, key_count_long}
use Rattle.running.specs.Hash.{Hash, Sized, runs, zeros, pad, padded, block_count, digest}
use Rattle.running.specs.Mac.{hmac_of, hmac_blocks_of}
use Rattle.running.proofs.Closes.{length-pad}

-- the zeros of the padding are the least that serve (FIPS 180-4, section 5.1.1)
pub zeros_serve : (n : ℕ) → (n + 1 + zeros n) % 64 ≡ 56
zeros_serve n = omega arith

pub zeros_least : (n z : ℕ) → (n + 1 + z) % 64 ≡ 56 → zeros n ≤ z
zeros_least n z e = omega arith

-- the padded message is whole blocks
pub padded_whole : (m : List ℕ) → length (padded m) % 64 ≡ 0
unfolding padded
padded_whole m = rw (length-append m (pad (length m)), length-pad (length m)) (omega arith)

-- a finished hash of n bytes compresses the ceiling of (n + 9) / 64 blocks
pub block_count-ceiling : (m : List ℕ) → block_count m ≡ ceiling (length m + 9) 64
unfolding block_count padded
block_count-ceiling m = rw (length-append m (pad (length m)), length-pad (length m)) (omega arith)

-- a code behind a block takes one block more
pub last_one : (d : List ℕ) (n : ℕ) → length d ≡ n → n ≤ 55 → length (d ++ pad (64 + n)) / 64 ≡ 1
last_one d n e l = rw (length-append d (pad (64 + n)), length-pad (64 + n)) (omega arith)

module _ {C : Type 0} (H : Hash C) (ok : Sized H) where
  pub digest-length : (m : List ℕ) → length (digest H m) ≡ H.size
  unfolding digest
  digest-length m = ok.long (runs H.compress (block_count m) H.first (padded m))

  pub digest_bytes : (m : List ℕ) → Bytes (digest H m)
  unfolding digest
  digest_bytes m = ok.bytes (runs H.compress (block_count m) H.first (padded m))

  -- a code fits a block
  pub fits : H.size ≤ 64
  fits = omega (arith, ok.short)

  pub mac_length : (k m : List ℕ) → length (hmac_of H k m) ≡ H.size
  mac_length k m = hmac-length (digest H) 64 H.size digest-length fits k m

  pub mac_bytes : (k m : List ℕ) → Bytes (hmac_of H k m)
  mac_bytes k m = hmac_bytes (digest H) 64 digest_bytes k m

  hmac_blocks_of_count : (k m : List ℕ) → hmac_blocks_of H k m ≡ key_count (digest H) 64 block_count k + ceiling (length m + 73) 64 + 2
  hmac_blocks_of_count k m =
      hmac_count_lengths (digest H) 64 block_count (λ n. ceiling (n + 9) 64) block_count-ceiling H.size digest-length fits k m
      ∙ omega (arith, ok.short)

  -- HMAC of n bytes under a key of up to 64 bytes
  pub mac_count_short : (k m : List ℕ) → length k ≤ 64 → hmac_blocks_of H k m ≡ ceiling (length m + 73) 64 + 2
  mac_count_short k m l = hmac_blocks_of_count k m ∙ rw (key_count_short (digest H) 64 block_count k l) (omega arith)

  -- a longer key adds the blocks of its hash
  pub mac_count_long : (k m : List ℕ) → 64 < length k → hmac_blocks_of H k m ≡ ceiling (length k + 9) 64 + (ceiling (length m + 73) 64 + 2)
  mac_count_long k m l = hmac_blocks_of_count k m ∙ rw (key_count_long (digest H) 64 block_count k l, block_count-ceiling k) (omega arith)

  -- under a short key, 0 and 55 bytes take 4 blocks, 56 take 5
  pub mac_marked : (k m : List ℕ) → length k ≤ 64
      → ((length m ≡ 0 → hmac_blocks_of H k m ≡ 4) × (length m ≡ 55 → hmac_blocks_of H k m ≡ 4) × (length m ≡ 56 → hmac_blocks_of H k m ≡ 5))
  mac_marked k m l =
      let e = mac_count_short k m l in
      ((λ n. e ∙ rw n refl), (λ n. e ∙ rw n refl), (λ n. e ∙ rw n refl))
