-- What a row of tests has shown that passed, or that gave a refusal.
use Prim.Native.Nat.{ℕ, ◌≤◌}
use mathlib.Core.List.{List}
use mathlib.Core.Path.{◌≡◌, sym, ◌∙◌, ap}
use lib.ListN.{length}
use borrow.Author.Tests.{leb-true}
use Rattle.std.specs.Prelude.{Result, Ok, Err}
use Rattle.refusal.specs.Order.{Res, refuse, accept}
use Rattle.refusal.specs.Table.{number_of, value_of}
use Rattle.refusal.specs.Answer.{told}
use Rattle.refusal.specs.declared.Refusal.{Refusal}
use Rattle.refusal.proofs.Order.{need_inv}
use Rattle.messages.specs.Rakp.{checked}

pub test_passed : {A : Type 0} (t : Result A Refusal) (R : Res Unit) {a : A} → told t ≡ R → t ≡ Ok a → R ≡ accept tt
test_passed t R e g = sym e ∙ ap told g

pub test_refused : {A : Type 0} (t : Result A Refusal) (R : Res Unit) (r : Refusal) → told t ≡ R → t ≡ Err r → R ≡ refuse (number_of r) (value_of r)
test_refused t R r e g = sym e ∙ ap told g

-- what the tests have shown of the length
pub checked_size : (names : List ℕ) (fixed n v : ℕ) (m : List ℕ) → checked names fixed n v m ≡ accept tt → fixed ≤ length m
unfolding checked
checked_size names fixed n v m e =
    let a = need_inv _ _ _ _ e in
    let b = need_inv _ _ _ _ a.1 in
    let d = need_inv _ _ _ _ b.1 in
    leb-true _ _ d.0
