-- The answers of SHA-1 and of HMAC-SHA1 (docs/RULES.md, 3.3 to 3.5): what the call was asked for, or refusal 37. What each call
-- promises is said once for every hash (crate running); here its answer is told by the fields of this crate's structs.
use Rattle.std.specs.Prelude.{Result, ℕ, Bool, List}
use Rattle.refusal.specs.Answer.{told_as}
use Rattle.refusal.specs.declared.Refusal.{Refusal}
use Rattle.sha1_block.specs.Block.{sha1_hash}
use Rattle.running.specs.Promise.{Answer}
use Rattle.running.specs.Promise as promise
use Rattle.sha1_hmac.specs.View.{state_of, mac_state_of, hashed_of}
use Rattle.sha1_hmac.specs.declared.Sha1.{Sha1}
use Rattle.sha1_hmac.specs.declared.Hashed.{Hashed}
use Rattle.sha1_hmac.specs.declared.mac.Sha1Hmac.{Sha1Hmac}

-- a code of the bytes d behind n blocks, which is given where `ok` says so
abbrev pub HashedPromise : Bool → List ℕ → ℕ → Result Hashed Refusal → Type 0
HashedPromise ok d n r = Answer ok (d, n) (told_as hashed_of r)

-- the calls
abbrev pub FedPromise : Sha1 → List ℕ → Result Sha1 Refusal → Type 0
FedPromise st s r = promise.FedPromise sha1_hash (state_of st) s (told_as state_of r)

abbrev pub EndPromise : Sha1 → Result Hashed Refusal → Type 0
EndPromise st r = promise.EndPromise sha1_hash (state_of st) (told_as hashed_of r)

abbrev pub HashPromise : List ℕ → Result Hashed Refusal → Type 0
HashPromise m r = promise.HashPromise sha1_hash m (told_as hashed_of r)

abbrev pub BegunPromise : List ℕ → Result Sha1Hmac Refusal → Type 0
BegunPromise k r = promise.BegunPromise sha1_hash k (told_as mac_state_of r)

abbrev pub MacFedPromise : Sha1Hmac → List ℕ → Result Sha1Hmac Refusal → Type 0
MacFedPromise st s r = promise.MacFedPromise sha1_hash (mac_state_of st) s (told_as mac_state_of r)

abbrev pub MacEndPromise : Sha1Hmac → Result Hashed Refusal → Type 0
MacEndPromise st r = promise.MacEndPromise sha1_hash (mac_state_of st) (told_as hashed_of r)

abbrev pub HmacPromise : List ℕ → List ℕ → Result Hashed Refusal → Type 0
HmacPromise k m r = promise.HmacPromise sha1_hash k m (told_as hashed_of r)
