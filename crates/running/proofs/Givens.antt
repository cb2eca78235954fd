-- A running HMAC to which a key and bytes were given: what a piece and the end make of it. One line a piece for those who feed several.
use Prim.Native.Nat.{ℕ, ◌+◌, ◌≤◌}
use mathlib.Core.List.{List, [], ◌++◌}
use mathlib.Core.Path.{◌≡◌, refl, ◌∙◌, ap, subst}
use lib.ListN.{length}
use borrow.Author.Tests.{leb-true, le-leb}
use Rattle.refusal.specs.Order.{Res, refuse, accept}
use Rattle.refusal.proofs.Order.{refuse≢accept, accept_inj}
use Rattle.running.specs.Hash.{Hash, Sized}
use Rattle.running.specs.Mac.{MacState, hmac_of, hmac_blocks_of}
use Rattle.running.specs.Promise.{limit, BegunPromise, MacFedPromise, MacEndPromise, Answer}
use Rattle.running.specs.Given.{Given, GivenPromise}
use Rattle.running.proofs.Coded.{mac_more, mac_code}
use Rattle.running.proofs.Promised.{gives, within, say_yes, handed_on}
use lib.Dec.{leb}

module _ {C : Type 0} (H : Hash C) (ok : Sized H) where
  -- the state before any byte, and the state that an answer gives
  pub given_none : (key : List ℕ) {st : MacState C} → BegunPromise H key (accept st) → Given H key [] st
  given_none key p = let q = gives p in record { key = leb-true (length key) limit q.0; state = q.1 }

  pub given_by : (key m : List ℕ) {st : MacState C} → GivenPromise H key m (accept st) → Given H key m st
  given_by key m p = let q = gives p in record { key = leb-true (length key) limit q.0; state = q.1 }

  module _ (key m : List ℕ) {st : MacState C} (g : Given H key m st) where
    -- as an answer
    pub given_answer : GivenPromise H key m (accept st)
    given_answer = within g.key g.state

    -- a piece that the limit lets in is taken, and goes to the end of what was given
    pub given_more : (s : List ℕ) {r : Res (MacState C)} → MacFedPromise H st s r → length m + length s ≤ limit
        → (v : MacState C) × (r ≡ accept v) × Given H key (m ++ s) v
    given_more s p l = (_, mac_more H ok key m s g.state p l, record { key = g.key; state = refl })

    -- so what an accepted piece left is that state
    pub given_next : (s : List ℕ) {v : MacState C} → MacFedPromise H st s (accept v) → length m + length s ≤ limit → Given H key (m ++ s) v
    given_next s p l =
        let q = given_more s p l in
        record { key = g.key; state = accept_inj _ _ q.1 ∙ q.2.state }

    -- and is not refused
    pub given_taken : (s : List ℕ) {a b : ℕ} → MacFedPromise H st s (refuse a b) → length m + length s ≤ limit → ⊥
    given_taken s p l = refuse≢accept _ _ _ (given_more s p l).1

    -- the end is the code of what was given
    pub given_code : {r : Res (List ℕ × ℕ)} → MacEndPromise H st r → length m ≤ limit → r ≡ accept (hmac_of H key m, hmac_blocks_of H key m)
    given_code p l = mac_code H ok key m g.state p g.key l

    pub given_hashed : {r : Res (List ℕ × ℕ)} → MacEndPromise H st r → length m ≤ limit
        → Answer (leb (length key) limit) (hmac_of H key m, hmac_blocks_of H key m) r
    given_hashed p l = say_yes (le-leb (length key) limit g.key) (given_code p l)

  -- The same after any key: a key that is too long is refused before the first piece, and that refusal is handed on to the end.
  -- What holds of an answer that gives a state and of one that refuses holds of every answer.
  module _ (key m : List ℕ) {r : Res (MacState C)} (p : GivenPromise H key m r) where
    by_answer : {A : Type 0} → ((st : MacState C) → r ≡ accept st → Given H key m st → A)
        → ((n v : ℕ) → r ≡ refuse n v → GivenPromise H key m (refuse n v) → A) → A
    by_answer {A} f g = by r refl
      where
        by : (x : Res (MacState C)) → r ≡ x → A
        by (accept st) e = f st e (given_by key m (subst (GivenPromise H key m) e p))
        by (refuse n v) e = g n v e (subst (GivenPromise H key m) e p)

    -- a piece goes to the end of what was given
    pub given_fed : (s : List ℕ) {q : Res (MacState C)} → ((st : MacState C) → r ≡ accept st → MacFedPromise H st s q)
        → ((n v : ℕ) → r ≡ refuse n v → q ≡ refuse n v) → length m + length s ≤ limit → GivenPromise H key (m ++ s) q
    given_fed s f h l =
        by_answer
        (λ st e g. let w = given_more key m g s (f st e) l in say_yes (le-leb (length key) limit g.key) (w.1 ∙ ap accept w.2.state))
        (λ n v e o. rw (h n v e) (handed_on _ o))

    -- the end is the code of what was given, or the refusal of the key
    pub given_ended : {q : Res (List ℕ × ℕ)} → ((st : MacState C) → r ≡ accept st → MacEndPromise H st q)
        → ((n v : ℕ) → r ≡ refuse n v → q ≡ refuse n v) → length m ≤ limit
        → Answer (leb (length key) limit) (hmac_of H key m, hmac_blocks_of H key m) q
    given_ended f h l = by_answer (λ st e g. given_hashed key m g (f st e) l) (λ n v e o. rw (h n v e) (handed_on _ o))
