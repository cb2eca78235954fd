-- The running HMAC (docs/RULES.md, 3.4, 3.8 and 3.9): the inner hash of RFC 2104, section 2, the outer one after its key block,
-- and the blocks compressed for the key and that block.
use Rattle.std.specs.Prelude.{ℕ, ◌+◌, List, ◌++◌}
use Rattle.hmac.specs.Hmac.{xored, key_block, inner, hmac}
use Rattle.hmac.specs.Count.{key_count, hmac_count}
use Rattle.running.specs.Hash.{Hash, plus, runs, pad, block_count, digest}
use Rattle.running.specs.Running.{State, taken, digest_of, count_of, after}

pub record MacState (C : Type 0) : Type 0 where
  pub inner : State C
  pub outer : C
  pub blocks : ℕ

-- the blocks compressed so far
unfoldable pub mac_running : {C : Type 0} → MacState C → ℕ
mac_running st = plus st.blocks st.inner.blocks

unfoldable pub mac_count : {C : Type 0} → MacState C → ℕ
mac_count st = plus (plus st.blocks (count_of st.inner)) 1

module _ {C : Type 0} (H : Hash C) where
  -- HMAC over the hash, its key's block, what its inner hash is given, and its counts
  abbrev pub hmac_of : List ℕ → List ℕ → List ℕ
  hmac_of k m = hmac (digest H) 64 k m

  abbrev pub key_block_of : List ℕ → List ℕ
  key_block_of k = key_block (digest H) 64 k

  abbrev pub inner_of : List ℕ → List ℕ → List ℕ
  inner_of k m = inner (digest H) 64 k m

  abbrev pub key_blocks_of : List ℕ → ℕ
  key_blocks_of k = key_count (digest H) 64 block_count k

  abbrev pub hmac_blocks_of : List ℕ → List ℕ → ℕ
  hmac_blocks_of k m = hmac_count (digest H) 64 block_count k m

  -- the state that the key k and the bytes of m leave
  unfoldable pub mac_after : List ℕ → List ℕ → MacState C
  mac_after k m =
      record {
        inner = after H (inner_of k m);
        outer = runs H.compress 1 H.first (xored 0x5c (key_block_of k));
        blocks = plus (key_blocks_of k) 1;
      }

  -- a state after the piece s
  unfoldable pub mac_taken : MacState C → List ℕ → MacState C
  mac_taken st s = record { inner = taken H st.inner s; outer = st.outer; blocks = st.blocks }

  -- the outer hash's last block is the inner code with the padding of a block and a code
  unfoldable pub mac_digest : MacState C → List ℕ
  mac_digest st = H.code (runs H.compress 1 st.outer (digest_of H st.inner ++ pad (64 + H.size)))
