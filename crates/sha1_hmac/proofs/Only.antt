-- No second answer: two answers that keep a call's promise on the same arguments are equal.
use Rattle.std.proofs.Common.{◌≡◌, ℕ, Bool, List, sym, ◌∙◌}
use Rattle.std.specs.Prelude.{Result}
use Rattle.refusal.specs.declared.Refusal.{Refusal}
use Rattle.refusal.proofs.Answer.{answer_one}
use Rattle.running.proofs.Promised.{only}
use Rattle.sha1_hmac.specs.View.{state_of, mac_state_of, hashed_of}
use Rattle.sha1_hmac.specs.Answers.{HashedPromise}
use Rattle.sha1_hmac.specs.declared.Sha1.{Sha1}
use Rattle.sha1_hmac.specs.declared.Hashed.{Hashed}
use Rattle.sha1_hmac.specs.declared.mac.Sha1Hmac.{Sha1Hmac}
use Rattle.sha1_hmac.proofs.Sha1.new.Reads as new-reads
use Rattle.sha1_hmac.proofs.Sha1.update.Reads as update-reads
use Rattle.sha1_hmac.proofs.Sha1.finalize.Reads as finalize-reads
use Rattle.sha1_hmac.proofs.Sha1.blocks.Reads as blocks-reads
use Rattle.sha1_hmac.proofs.hash.Reads as hash-reads
use Rattle.sha1_hmac.proofs.mac.Sha1Hmac.new.Reads as mac-new-reads
use Rattle.sha1_hmac.proofs.mac.Sha1Hmac.feed.Reads as mac-feed-reads
use Rattle.sha1_hmac.proofs.mac.Sha1Hmac.finalize.Reads as mac-finalize-reads
use Rattle.sha1_hmac.proofs.mac.Sha1Hmac.blocks.Reads as mac-blocks-reads
use Rattle.sha1_hmac.proofs.mac.hmac.Reads as hmac-reads

state_one : (a b : Sha1) → state_of a ≡ state_of b → a ≡ b
state_one a b e = λ i. record { h = (e i).h; buf = (e i).buf; len = (e i).len; blocks = (e i).blocks }

mac_state_one : (a b : Sha1Hmac) → mac_state_of a ≡ mac_state_of b → a ≡ b
mac_state_one a b e =
    let f : a.inner ≡ b.inner = state_one a.inner b.inner (λ i. (e i).inner) in
    λ i. record { inner = f i; outer = (e i).outer; blocks = (e i).blocks }

code_one : (a b : Hashed) → hashed_of a ≡ hashed_of b → a ≡ b
code_one a b e = λ i. record { digest = (e i).0; blocks = (e i).1 }

pub hashed_one : (ok : Bool) (d : List ℕ) (n : ℕ) (a b : Result Hashed Refusal) → HashedPromise ok d n a → HashedPromise ok d n b → a ≡ b
hashed_one ok d n a b p q = answer_one hashed_of code_one a b (only p q)

pub new_only : (κs : _) (args : _) (a b : _) (s t : _) → new-reads.Post κs args a s → new-reads.Post κs args b t → a ≡ b
new_only κs args a b s t p q = state_one a b (p ∙ sym q)

pub update_only : (κs : _) (args : _) (a b : _) (s t : _) → update-reads.Post κs args a s → update-reads.Post κs args b t → a ≡ b
update_only κs args a b s t p q = answer_one state_of state_one a b (only p q)

pub finalize_only : (κs : _) (args : _) (a b : _) (s t : _) → finalize-reads.Post κs args a s → finalize-reads.Post κs args b t → a ≡ b
finalize_only κs args a b s t p q = hashed_one _ _ _ a b p q

pub blocks_only : (κs : _) (args : _) (a b : _) (s t : _) → blocks-reads.Post κs args a s → blocks-reads.Post κs args b t → a ≡ b
blocks_only κs args a b s t p q = p ∙ sym q

pub hash_only : (κs : _) (args : _) (a b : _) (s t : _) → hash-reads.Post κs args a s → hash-reads.Post κs args b t → a ≡ b
hash_only κs args a b s t p q = hashed_one _ _ _ a b p q

pub mac_new_only : (κs : _) (args : _) (a b : _) (s t : _) → mac-new-reads.Post κs args a s → mac-new-reads.Post κs args b t → a ≡ b
mac_new_only κs args a b s t p q = answer_one mac_state_of mac_state_one a b (only p q)

pub mac_feed_only : (κs : _) (args : _) (a b : _) (s t : _) → mac-feed-reads.Post κs args a s → mac-feed-reads.Post κs args b t → a ≡ b
mac_feed_only κs args a b s t p q = answer_one mac_state_of mac_state_one a b (only p q)

pub mac_finalize_only : (κs : _) (args : _) (a b : _) (s t : _)
    → mac-finalize-reads.Post κs args a s → mac-finalize-reads.Post κs args b t → a ≡ b
mac_finalize_only κs args a b s t p q = hashed_one _ _ _ a b p q

pub mac_blocks_only : (κs : _) (args : _) (a b : _) (s t : _) → mac-blocks-reads.Post κs args a s → mac-blocks-reads.Post κs args b t → a ≡ b
mac_blocks_only κs args a b s t p q = p ∙ sym q

pub hmac_only : (κs : _) (args : _) (a b : _) (s t : _) → hmac-reads.Post κs args a s → hmac-reads.Post κs args b t → a ≡ b
hmac_only κs args a b s t p q = hashed_one _ _ _ a b p q
