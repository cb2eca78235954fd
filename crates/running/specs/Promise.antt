-- The answers of a hash and of HMAC (docs/RULES.md, 3.3 to 3.5): what the call was asked for, or refusal 37. One promise for a state
-- and for a code.
use Rattle.std.specs.Prelude.{ℕ, ◌+◌, Bool, ◌&&◌, List, [], ◌≡◌, leb, length}
use Rattle.refusal.specs.Order.{Res, accept, need}
use Rattle.running.specs.Hash.{Hash, block_count, digest}
use Rattle.running.specs.Running.{State, taken, digest_of, count_of}
use Rattle.running.specs.Mac.{MacState, hmac_of, hmac_blocks_of, mac_after, mac_taken, mac_digest, mac_count}

-- how many bytes a hash takes, and HMAC of its key and of its message; the inner hash is given the key's block besides
abbrev pub limit : ℕ
limit = 1048576

abbrev pub inner_limit : ℕ
inner_limit = limit + 64

-- the answer r: a where the call is taken, else 37
pub record Answer {A : Type 0} (ok : Bool) (a : A) (r : Res A) : Type 0 where
  pub answer : r ≡ need ok 37 0 (accept a)

-- the calls; r is the answer: the next state, or a code and the number of blocks behind it
module _ {C : Type 0} (H : Hash C) where
  abbrev pub FedPromise : State C → List ℕ → Res (State C) → Type 0
  FedPromise st s r = Answer (leb (st.len + length s) limit) (taken H st s) r

  abbrev pub EndPromise : State C → Res (List ℕ × ℕ) → Type 0
  EndPromise st r = Answer (leb st.len limit) (digest_of H st, count_of st) r

  abbrev pub HashPromise : List ℕ → Res (List ℕ × ℕ) → Type 0
  HashPromise m r = Answer (leb (length m) limit) (digest H m, block_count m) r

  abbrev pub BegunPromise : List ℕ → Res (MacState C) → Type 0
  BegunPromise key r = Answer (leb (length key) limit) (mac_after H key []) r

  abbrev pub MacFedPromise : MacState C → List ℕ → Res (MacState C) → Type 0
  MacFedPromise st s r = Answer (leb (st.inner.len + length s) inner_limit) (mac_taken H st s) r

  abbrev pub MacEndPromise : MacState C → Res (List ℕ × ℕ) → Type 0
  MacEndPromise st r = Answer (leb st.inner.len inner_limit) (mac_digest H st, mac_count st) r

  -- HMAC in one call: key and message are counted each for itself
  abbrev pub HmacPromise : List ℕ → List ℕ → Res (List ℕ × ℕ) → Type 0
  HmacPromise key m r = Answer (leb (length key) limit && leb (length m) limit) (hmac_of H key m, hmac_blocks_of H key m) r
