-- A user's name, of every call that makes one: 40 is told exactly when more than sixteen bytes were lent, 34 exactly when they are at
-- most sixteen and one of them is zero or not ASCII, and in all other cases the name that is made is the whole of what was lent.
use Prim.Native.Nat.{ℕ, ◌≤◌, ◌<◌}
use native.Mathlib.Omega.{arith}
use mathlib.Core.Bool.{Bool, true, false}
use mathlib.Core.List.{List}
use mathlib.Core.Logic.{◌↔◌}
use mathlib.Core.Path.{◌≡◌, refl, sym, ◌∙◌, ap}
use lib.Dec.{leb}
use lib.ListN.{length}
use borrow.Author.Tests.{le-leb, lt-leb, leb-true, leb-false}
use Rattle.refusal.specs.Call.{Call}
use Rattle.std.specs.Prelude.{Ok}
use Rattle.refusal.specs.Order.{Res, refuse, accept, need, and_then, done}
use Rattle.refusal.specs.Answer.{told}
use Rattle.refusal.proofs.Order.{refuse≢accept, pass, need_inv, need_past, need_own, done_need}
use Rattle.messages.specs.Name.{allowed, longest_name, username_of, name_of, stored}
use Rattle.messages.specs.declared.rakp_1.Username.{Username}
use Rattle.messages.proofs.Names.{stored_whole, taken_name}
use Rattle.messages.proofs.Answered.{told_done, accepted, passed_name}
use Rattle.messages.proofs.rakp_1.Username.new.Kinds as username-kinds
use Rattle.messages.proofs.rakp_1.Username.new.Reads as username-reads

abbrev pub NameCall : Type 0
NameCall = Call 1 username-kinds.ps username-kinds.r username-reads.Post

-- the bytes that a call was lent
abbrev pub lent_name : NameCall → List ℕ
lent_name c = c.args.0.now

-- behind the test of the length there is no 40, and 34 is the bytes' own
no_40 : (b : Bool) → need {A = Unit {0}} b 34 0 (accept tt) ≡ refuse 40 0 → ⊥
no_40 b e = refuse≢accept 40 0 tt (sym (need_past b 34 0 (accept tt) (λ z. omega arith) e).1)

own_34 : (b : Bool) → (need {A = Unit {0}} b 34 0 (accept tt) ≡ refuse 34 0) ↔ (b ≡ false)
own_34 b = need_own b 34 0 (accept tt) (λ e. refuse≢accept 34 0 tt (sym e))

-- how an accepted name is stored has no part in whether it is
done_stored : (R : Res (List ℕ)) → done (and_then R (λ n. accept (stored n))) ≡ done R
unfolding and_then
done_stored (refuse n v) = refl
done_stored (accept l) = refl

module _ (c : NameCall) where
  -- the two tests, in their order
  pub name_order : told c.answer ≡ need (leb (length (lent_name c)) longest_name) 40 0 (need (allowed (lent_name c)) 34 0 (accept tt))
  unfolding username_of
  name_order =
      told_done _ _ ∙ ap done c.kept.answer ∙ done_stored _ ∙ done_need _ _ _ _ ∙ ap (need (leb (length (lent_name c)) longest_name) 40 0) (done_need _ _ _ _)

  pub name_too_long : (told c.answer ≡ refuse 40 0) ↔ (longest_name < length (lent_name c))
  name_too_long =
      let own = need_own _ 40 0 _ (no_40 (allowed (lent_name c))) in
      ((λ e. leb-false _ _ (own.0 (sym name_order ∙ e))), (λ h. name_order ∙ own.1 (lt-leb _ _ h)))

  pub name_not_allowed : (told c.answer ≡ refuse 34 0) ↔ ((length (lent_name c) ≤ longest_name) × (allowed (lent_name c) ≡ false))
  name_not_allowed = (
    (λ e.
        let p = need_past _ 40 0 _ {m = 34} (λ z. omega arith) (sym name_order ∙ e) in
        (leb-true _ _ p.0, (own_34 (allowed (lent_name c))).0 p.1)),
    (λ h. name_order ∙ pass _ _ _ _ (le-leb _ _ h.0) ((own_34 (allowed (lent_name c))).1 h.1)),
  )

  pub name_taken : ((u : Username) × (c.answer ≡ Ok u)) ↔ ((length (lent_name c) ≤ longest_name) × (allowed (lent_name c) ≡ true))
  name_taken = (
    (λ h.
        let p = need_inv _ _ _ _ (sym name_order ∙ ap told h.1) in
        (leb-true _ _ p.0, (need_inv _ _ _ _ p.1).0)),
    (λ h. accepted _ (name_order ∙ pass _ _ _ _ (le-leb _ _ h.0) (pass _ _ _ _ h.1 refl))),
  )

  -- a name that was taken is the whole of what was lent
  pub name_whole : (u : Username) → c.answer ≡ Ok u → name_of u ≡ lent_name c
  name_whole u e =
      let p = passed_name _ _ u c.kept e in
      ap name_of p.2 ∙ stored_whole p.0 ∙ sym (taken_name _ _ p.1).2

-- so two names that were taken as one are one
pub names_apart : (c d : NameCall) (u v : Username) → c.answer ≡ Ok u → d.answer ≡ Ok v → name_of u ≡ name_of v
    → lent_name c ≡ lent_name d
names_apart c d u v e f g = sym (name_whole c u e) ∙ g ∙ name_whole d v f
