-- The running hash's end: the hash of all bytes that went in, with FIPS 180-4's number of blocks.
use Prim.Native.Nat.{ℕ, ◌+◌, ◌-◌, ◌*◌, ◌/◌, ◌^◌, ◌≤◌, ◌<◌}
use native.Mathlib.Omega.{arith}
use mathlib.Core.Path.{◌≡◌, refl, ◌∙◌, ap}
use mathlib.Core.List.{List, ◌++◌}
use lib.ListN.{length, drop, length-append, length-drop}
use Rattle.running.specs.Hash.{Hash, plus, runs, zeros, pad, padded, block_count, digest}
use Rattle.running.specs.Running.{pending, closing, digest_of, count_of, after}
use Rattle.running.proofs.Blocks.{runs_on}
use Rattle.running.proofs.Takes.{waits}
use Rattle.running.proofs.Closes.{length-pad}
use Rattle.running.proofs.Sizes.{block_count-ceiling}

module _ {C : Type 0} (H : Hash C) where
  -- what waits after the bytes of m
  pending_after : (m : List ℕ) → pending (after H m) ≡ drop (length m / 64 * 64) m
  unfolding after
  pending_after m =
      waits H (runs H.compress (length m / 64) H.first m) (drop (length m / 64 * 64) m) (length m) (length m / 64)
      (rw (length-drop (length m / 64 * 64) m) (omega arith))

  -- the end of a message's state: its blocks and the message's are the padded message's
  end_after : (m : List ℕ) → (digest_of H (after H m) ≡ digest H m) × (length m / 64 + length (closing (after H m)) / 64 ≡ block_count m)
  unfolding digest_of closing digest block_count padded after
  end_after m =
      let q : ℕ = length m / 64 in
      let p : List ℕ = pad (length m) in
      let r : List ℕ = drop (q * 64) m ++ p in
      let e : pending (after H m) ++ p ≡ r = ap (λ (x : List ℕ). x ++ p) (pending_after m) in
      let l : q * 64 ≤ length m = omega arith in
      let nr : length r ≡ length m - q * 64 + (9 + zeros (length m)) =
      length-append (drop (q * 64) m) p ∙ rw (length-drop (q * 64) m, length-pad (length m)) in
      let nm : length (m ++ p) ≡ length m + (9 + zeros (length m)) = length-append m p ∙ rw (length-pad (length m)) in
      let n : q + length r / 64 ≡ length (m ++ p) / 64 = omega arith in
      let h : runs H.compress (length r / 64) (runs H.compress q H.first m) r ≡ runs H.compress (length (m ++ p) / 64) H.first (m ++ p) =
      runs_on H.compress H.first m p q (length r / 64) l ∙ ap (λ (i : ℕ). runs H.compress i H.first (m ++ p)) n in
      let k = ap (λ (x : List ℕ). runs H.compress (length x / 64) (runs H.compress q H.first m) x) e in
      (ap H.code (k ∙ h), ap (λ (x : List ℕ). q + length x / 64) e ∙ n)

  -- a message's state gives the hash of the message
  pub digest_after : (m : List ℕ) → digest_of H (after H m) ≡ digest H m
  digest_after m = (end_after m).0

  -- the running hash after n bytes tells the floor of n / 64
  pub blocks_after : (m : List ℕ) → (after H m).blocks ≡ length m / 64
  unfolding after
  blocks_after m = refl

  -- a sum that does not wrap
  sum_below : (a b n : ℕ) → a + b ≡ n → n < 2 ^ 32 → plus a b ≡ n
  sum_below a b n e l = omega arith

  -- and tells the blocks of the padded message
  pub count_after : (m : List ℕ) → length m < 2 ^ 31 → count_of (after H m) ≡ block_count m
  unfolding count_of
  count_after m l =
      sum_below (after H m).blocks (length (closing (after H m)) / 64) (block_count m)
      (ap (λ (x : ℕ). x + length (closing (after H m)) / 64) (blocks_after m) ∙ (end_after m).1) (rw (block_count-ceiling m) (omega arith))

  pub len_after : (m : List ℕ) → (after H m).len ≡ length m
  unfolding after
  len_after m = refl
