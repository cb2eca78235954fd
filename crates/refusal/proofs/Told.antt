-- What is told of a refusal is all there is to know of it.
use mathlib.Core.Path.{◌≡◌, refl}
use Rattle.std.specs.Prelude.{ℕ, Bool, true, false, cond, Option, Some, None, MatchOption}
use Rattle.refusal.specs.Table.{number_of, value_of, carries_of, carried_of}
use Rattle.refusal.specs.Order.{Res, refuse}
use Rattle.refusal.specs.declared.Refusal.{Refusal}
use Rattle.refusal.proofs.Numbers.{told_one}

-- two refusals told alike are one
pub refused_one : {A : Type 0} (r q : Refusal) → ◌≡◌ {A = Res A} (refuse (number_of r) (value_of r)) (refuse (number_of q) (value_of q)) → r ≡ q
refused_one r q e = told_one r q (cc) (cc)

-- what a call told of the byte that goes with the number says whether one does, and which
carried_by : (b : Bool) (x : ℕ) (o : Option ℕ) → o ≡ cond b (Some x) None → MatchOption o (b ≡ false) (λ v. (b ≡ true) × (v ≡ x))
carried_by true x None e = cc
carried_by true x (Some v) e = (refl, cc)
carried_by false x None e = refl
carried_by false x (Some v) e = cc

pub carried : (r : Refusal) (o : Option ℕ) → o ≡ carried_of r → MatchOption o (carries_of r ≡ false) (λ v. (carries_of r ≡ true) × (v ≡ value_of r))
carried r o e = carried_by (carries_of r) (value_of r) o e
