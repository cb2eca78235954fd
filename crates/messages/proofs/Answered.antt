-- What a caller learns of an answer, said of the definition that the promise cites: for the steps that go on from there.
use Prim.Native.Nat.{ℕ, ◌≤◌}
use mathlib.Core.List.{List}
use mathlib.Core.Path.{◌≡◌, refl, sym, ◌∙◌, ap}
use lib.ListN.{length}
use Rattle.std.specs.Prelude.{Result, Ok, Err}
use Rattle.refusal.specs.Order.{Res, refuse, accept, and_then, done}
use Rattle.refusal.specs.Table.{number_of, value_of}
use Rattle.refusal.specs.declared.Refusal.{Refusal}
use Rattle.refusal.proofs.Order.{then_inv, accept_inj, refuse≢accept, refuse_as}
use Rattle.messages.specs.Name.{stored}
use Rattle.messages.specs.OpenSession.{Response, open_response}
use Rattle.messages.specs.Rakp.{fields2, message2, fields4, message4}
use Rattle.refusal.specs.Answer.{told_as, told}
use Rattle.messages.specs.Promises.{NamePromise, ReadPromise2}
use Rattle.messages.specs.declared.rakp_1.Username.{Username}
use Rattle.messages.specs.declared.rakp_2.RakpMessage2.{RakpMessage2}
use Rattle.messages.specs.declared.rakp_4.RakpMessage4.{RakpMessage4}
use Rattle.messages.proofs.Opening.{open_size}
use Rattle.messages.proofs.Reading.{checked_size}

-- what is told of an answer without its value; and an accepted answer has one
pub told_done : {A B : Type 0} (f : A → B) (r : Result A Refusal) → told r ≡ done (told_as f r)
told_done f (Ok a) = refl
told_done f (Err q) = refl

pub accepted : {A : Type 0} (r : Result A Refusal) → told r ≡ accept tt → (a : A) × (r ≡ Ok a)
accepted (Ok a) e = (a, refl)
accepted (Err q) e = absurd (refuse≢accept _ _ tt e)

-- message 2: what passed was accepted, as the message that is handed out
pub passed_2 : (R : Res RakpMessage2) (r : Result RakpMessage2 Refusal) (m : RakpMessage2) → ReadPromise2 R r → r ≡ Ok m → R ≡ accept m
passed_2 R r m p g = sym p.answer ∙ ap (told_as (λ x. x)) g

pub refused_2 : (R : Res RakpMessage2) (r : Result RakpMessage2 Refusal) (q : Refusal) → ReadPromise2 R r → r ≡ Err q
    → R ≡ refuse (number_of q) (value_of q)
refused_2 R r q p g = sym p.answer ∙ ap (told_as (λ x. x)) g

-- a name: what passed was accepted, and is stored
pub passed_name : (R : Res (List ℕ)) (r : Result Username Refusal) (u : Username) → NamePromise R r → r ≡ Ok u
    → (n : List ℕ) × (R ≡ accept n) × (u ≡ stored n)
passed_name R r u p g =
    let h = then_inv R _ u (sym p.answer ∙ ap (told_as (λ x. x)) g) in
    (h.0, h.1, sym (accept_inj _ _ h.2))

stored_refused : (R : Res (List ℕ)) (n v : ℕ) → and_then R (λ l. accept (stored l)) ≡ refuse n v → R ≡ refuse n v
unfolding and_then
stored_refused (refuse m w) n v e = refuse_as m w n v e
stored_refused (accept l) n v e = absurd (refuse≢accept n v _ (sym e))

pub refused_name : (R : Res (List ℕ)) (r : Result Username Refusal) (q : Refusal) → NamePromise R r → r ≡ Err q
    → R ≡ refuse (number_of q) (value_of q)
refused_name R r q p g = stored_refused R _ _ (sym p.answer ∙ ap (told_as (λ x. x)) g)

-- what an accepted message is, and how long at least
pub found_2 : (m : List ℕ) (f : RakpMessage2) → message2 m ≡ accept f → (f ≡ fields2 m) × (40 ≤ length m)
unfolding message2
found_2 m f e =
    let h = then_inv _ _ f e in
    (sym (accept_inj _ _ h.2), checked_size _ 40 _ _ m h.1)

pub found_4 : (m : List ℕ) (f : RakpMessage4) → message4 m ≡ accept f → (f ≡ fields4 m) × (8 ≤ length m)
unfolding message4
found_4 m f e =
    let h = then_inv _ _ f e in
    (sym (accept_inj _ _ h.2), checked_size _ 8 _ _ m h.1)

pub found_open : (m : List ℕ) (f : Response) → open_response m ≡ accept f → length m ≡ 36
unfolding open_response
found_open m f e = open_size m (then_inv _ _ f e).1
