-- What is told of an answer is all there is to know of it.
use mathlib.Core.Path.{◌≡◌, refl, sym, ap}
use Rattle.std.specs.Prelude.{Result, Ok, Err}
use Rattle.refusal.specs.Table.{number_of, value_of}
use Rattle.refusal.specs.Answer.{told_as, told}
use Rattle.refusal.specs.declared.Refusal.{Refusal}
use Rattle.refusal.proofs.Order.{refuse≢accept}
use Rattle.refusal.proofs.Told.{refused_one}

-- two answers told alike are one, where two values told alike are
pub answer_one : {A B : Type 0} (f : A → B) → ((x y : A) → f x ≡ f y → x ≡ y) → (a b : Result A Refusal) → told_as f a ≡ told_as f b → a ≡ b
answer_one f one (Ok x) (Ok y) e = ap Ok (one x y (cc))
answer_one f one (Ok x) (Err r) e = absurd (refuse≢accept (number_of r) (value_of r) (f x) (sym e))
answer_one f one (Err r) (Ok x) e = absurd (refuse≢accept (number_of r) (value_of r) (f x) e)
answer_one f one (Err r) (Err q) e = ap Err (refused_one r q e)

-- so an answer without a value is the one that is told
pub outcome_one : (a b : Result Unit Refusal) → told a ≡ told b → a ≡ b
outcome_one (Ok x) (Ok y) e = refl
outcome_one (Ok x) (Err r) e = absurd (refuse≢accept (number_of r) (value_of r) tt (sym e))
outcome_one (Err r) (Ok x) e = absurd (refuse≢accept (number_of r) (value_of r) tt e)
outcome_one (Err r) (Err q) e = ap Err (refused_one r q e)
