-- Laws of the order of refusals. A proof over a chain of tests cites these and never opens `need` or `and_then`.
use Prim.Native.Nat.{ℕ}
use mathlib.Core.Bool.{Bool, true, false, false≢true, true≢false}
use mathlib.Core.Logic.{◌↔◌}
use mathlib.Core.Path.{◌≡◌, refl, sym, ap, ap₂}
use Rattle.refusal.specs.Order.{Res, refuse, accept, need, and_then, done}

module _ {A : Type 0} where
  -- a refusal is no acceptance
  pub refuse≢accept : (n v : ℕ) (a : A) → refuse n v ≡ accept a → ⊥
  refuse≢accept n v a e = let z : ◌≡◌ {A = Bool} false true = ap accepted e in false≢true z
    where
      accepted : Res A → Bool
      accepted (refuse m w) = false
      accepted (accept b) = true

  -- what was accepted is one thing
  pub accept_inj : (a b : A) → accept a ≡ accept b → a ≡ b
  accept_inj a b e = cc

  -- a test that passes leaves what stands behind it
  pub pass : (b : Bool) (n v : ℕ) (r : Res A) {x : Res A} → b ≡ true → r ≡ x → need b n v r ≡ x
  unfolding need
  pass true n v r e h = h
  pass false n v r e h = absurd (false≢true e)

  -- a test that fails is the answer
  pub need_no : (b : Bool) (n v : ℕ) (r : Res A) → b ≡ false → need b n v r ≡ refuse n v
  unfolding need
  need_no true n v r e = absurd (true≢false e)
  need_no false n v r e = refl

  -- where a chain accepts, its first test passed and the rest accepts
  pub need_inv : (b : Bool) (n v : ℕ) (r : Res A) {a : A} → need b n v r ≡ accept a → (b ≡ true) × (r ≡ accept a)
  unfolding need
  need_inv true n v r e = (refl, e)
  need_inv false n v r e = absurd (refuse≢accept n v _ e)

  -- where a chain refuses by another number than its first test has, that test passed and the rest refuses so
  pub need_past : (b : Bool) (n v : ℕ) (r : Res A) {m u : ℕ} → (n ≡ m → ⊥) → need b n v r ≡ refuse m u → (b ≡ true) × (r ≡ refuse m u)
  unfolding need
  need_past true n v r d e = (refl, e)
  need_past false n v r d e = absurd (d cc)

  -- where the rest does not refuse by a test's own number, that refusal is given exactly when the test fails
  pub need_own : (b : Bool) (n v : ℕ) (r : Res A) → (r ≡ refuse n v → ⊥) → (need b n v r ≡ refuse n v) ↔ (b ≡ false)
  unfolding need
  need_own true n v r d = ((λ e. absurd (d e)), (λ e. absurd (true≢false e)))
  need_own false n v r d = ((λ e. refl), (λ e. refl))

module _ {A B : Type 0} where
  -- what follows a refusal is not reached
  pub then_refuse : (r : Res A) (f : A → Res B) (n v : ℕ) → r ≡ refuse n v → and_then r f ≡ refuse n v
  unfolding and_then
  then_refuse r f n v e = ap (λ (x : Res A). and_then x f) e

  -- what follows an acceptance is given what was found
  pub then_accept : (r : Res A) (f : A → Res B) (a : A) → r ≡ accept a → and_then r f ≡ f a
  unfolding and_then
  then_accept r f a e = ap (λ (x : Res A). and_then x f) e

  -- a test that stands first in a stage stands first in the whole
  pub then_need : (b : Bool) (n v : ℕ) (r : Res A) (f : A → Res B) → and_then (need b n v r) f ≡ need b n v (and_then r f)
  unfolding need and_then
  then_need true n v r f = refl
  then_need false n v r f = refl

  -- where two stages accept, the first did, and the second did with what the first found
  pub then_inv : (r : Res A) (f : A → Res B) (b : B) → and_then r f ≡ accept b → (a : A) × (r ≡ accept a) × (f a ≡ accept b)
  unfolding and_then
  then_inv (refuse n v) f b e = absurd (refuse≢accept n v b e)
  then_inv (accept a) f b e = (a, refl, e)

-- a refusal is the same of what type ever
pub refuse_as : {A B : Type 0} (m u n v : ℕ) → ◌≡◌ {A = Res B} (refuse m u) (refuse n v) → ◌≡◌ {A = Res A} (refuse m u) (refuse n v)
refuse_as m u n v e =
    let f : m ≡ n = cc in
    let g : u ≡ v = cc in
    ap₂ refuse f g

-- what is left of a chain of tests is a chain of the same tests
pub done_need : {A : Type 0} (b : Bool) (n v : ℕ) (r : Res A) → done (need b n v r) ≡ need b n v (done r)
unfolding need
done_need true n v r = refl
done_need false n v r = refl

-- what stands behind an outcome
pub done_yes : {A : Type 0} (R : Res A) → done R ≡ accept tt → (a : A) × (R ≡ accept a)
done_yes (refuse n v) e = absurd (refuse≢accept n v tt e)
done_yes (accept a) e = (a, refl)

pub done_no : {A : Type 0} (R : Res A) (n v : ℕ) → done R ≡ refuse n v → R ≡ refuse n v
done_no (refuse m u) n v e = refuse_as m u n v e
done_no (accept a) n v e = absurd (refuse≢accept n v tt (sym e))
