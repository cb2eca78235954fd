-- Answers of which it is known what they tell: an accepted call answers Ok, and what it gives is what was told.
use Prim.Native.Nat.{ℕ, ◌≤◌}
use mathlib.Core.List.{List}
use mathlib.Core.Path.{◌≡◌, refl, sym, ◌∙◌, ap, subst}
use lib.ListN.{length}
use Rattle.std.specs.Prelude.{Result, Ok, Err, IsOk}
use Rattle.refusal.specs.Order.{accept}
use Rattle.refusal.specs.Answer.{told_as}
use Rattle.refusal.specs.Table.{number_of, value_of}
use Rattle.refusal.specs.declared.Refusal.{Refusal}
use Rattle.refusal.proofs.Order.{refuse≢accept, accept_inj}
use Rattle.running.specs.Promise.{limit}
use Rattle.running.specs.Given.{Given, GivenPromise}
use Rattle.running.proofs.Givens.{given_by, given_code}
use Rattle.sha1_block.specs.Block.{sha1_hash}
use Rattle.sha1_block.proofs.Laws.{sha1_sized}
use Rattle.sha1_hmac.specs.View.{mac_state_of, hashed_of}
use Rattle.sha1_hmac.specs.Answers.{MacEndPromise}
use Rattle.sha1_hmac.specs.Hash.{hmac_sha1, hmac_blocks}
use Rattle.sha1_hmac.specs.declared.Hashed.{Hashed}
use Rattle.sha1_hmac.specs.declared.mac.Sha1Hmac.{Sha1Hmac}

module _ {A B : Type 0} (f : A → B) where
  pub told_ok : (r : Result A Refusal) {b : B} → told_as f r ≡ accept b → IsOk r
  told_ok (Ok a) e = refl
  told_ok (Err q) {b} e = absurd (refuse≢accept (number_of q) (value_of q) b e)

  pub told_value : {r : Result A Refusal} {a : A} {b : B} → r ≡ Ok a → told_as f r ≡ accept b → f a ≡ b
  told_value {r} {a} {b} e p = accept_inj (f a) b (sym (ap (told_as f) e) ∙ p)

-- the state that pieces leave, and the code of pieces that were taken
pub given_told : (k m : List ℕ) {r : Result Sha1Hmac Refusal} {mac : Sha1Hmac} → GivenPromise sha1_hash k m (told_as mac_state_of r) → r ≡ Ok mac
    → Given sha1_hash k m (mac_state_of mac)
given_told k m p e =
    let P : Result Sha1Hmac Refusal → Type 0 = λ x. GivenPromise sha1_hash k m (told_as mac_state_of x) in
    given_by sha1_hash sha1_sized k m (subst P e p)

pub pieces_told : (k m : List ℕ) {r : Result Sha1Hmac Refusal} {mac : Sha1Hmac} (q : Result Hashed Refusal)
    → GivenPromise sha1_hash k m (told_as mac_state_of r) → r ≡ Ok mac → MacEndPromise mac q → length m ≤ limit
    → told_as hashed_of q ≡ accept (hmac_sha1 k m, hmac_blocks k m)
pieces_told k m q p e f l = given_code sha1_hash sha1_sized k m (given_told k m p e) f l
