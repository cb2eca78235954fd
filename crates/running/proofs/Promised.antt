-- Laws of the promise: what a call that was taken and one that was refused say, one promise from another, and no second answer.
use Prim.Native.Nat.{ℕ, ◌+◌, ◌-◌, ◌≤◌, ◌<◌}
use native.Mathlib.Omega.{arith}
use lib.Dec.{leb}
use borrow.Author.Tests.{leb-true, leb-false, le-leb, lt-leb}
use mathlib.Core.Bool.{Bool, true, false, ◌&&◌}
use mathlib.Core.List.{List}
use mathlib.Core.Path.{◌≡◌, refl, sym, ◌∙◌, ap}
use Rattle.refusal.specs.Order.{Res, refuse, accept}
use Rattle.refusal.proofs.Order.{refuse≢accept, refuse_as, accept_inj, pass, need_no, need_inv}
use Rattle.running.specs.Promise.{Answer}

module _ {A : Type 0} {ok : Bool} {a : A} where
  -- what a call that was taken says
  pub yes : {r : Res A} → Answer ok a r → ok ≡ true → r ≡ accept a
  yes p o = p.answer ∙ pass ok 37 0 (accept a) o refl

  -- what a refused call says
  pub no : {r : Res A} → Answer ok a r → ok ≡ false → r ≡ refuse 37 0
  no p o = p.answer ∙ need_no ok 37 0 (accept a) o

  pub say_yes : {r : Res A} → ok ≡ true → r ≡ accept a → Answer ok a r
  say_yes o e = record { answer = e ∙ sym (pass ok 37 0 (accept a) o refl) }

  pub say_no : {r : Res A} → ok ≡ false → r ≡ refuse 37 0 → Answer ok a r
  say_no o e = record { answer = e ∙ sym (need_no ok 37 0 (accept a) o) }

  -- a call that gives something was taken
  pub gives : {b : A} → Answer ok a (accept b) → (ok ≡ true) × (b ≡ a)
  gives p = let q = need_inv ok 37 0 (accept a) (sym p.answer) in (q.0, sym (accept_inj a _ q.1))

  -- a call that refuses was not
  pub refuses : {n v : ℕ} → Answer ok a (refuse n v) → ok ≡ false
  refuses p = by ok refl
    where
      by : (t : Bool) → ok ≡ t → ok ≡ false
      by true e = absurd (refuse≢accept _ _ a (yes p e))
      by false e = e

-- a refusal is handed on, whatever the call was asked for
pub handed_on : {A B : Type 0} {ok : Bool} {a : A} {n v : ℕ} (b : B) → Answer ok a (refuse n v) → Answer ok b (refuse n v)
handed_on b p = let o = refuses p in say_no o (refuse_as _ _ 37 0 (no p o))

-- a call that tests a bound
module _ {A : Type 0} {a : A} where
  pub within : {n k : ℕ} {b : A} → n ≤ k → b ≡ a → Answer (leb n k) a (accept b)
  within {n} {k} l e = say_yes (le-leb n k l) (ap accept e)

  pub past : {n k : ℕ} → k < n → Answer (leb n k) a (refuse 37 0)
  past {n} {k} l = say_no (lt-leb n k l) refl

-- no second answer
pub only : {A : Type 0} {ok : Bool} {a : A} {r s : Res A} → Answer ok a r → Answer ok a s → r ≡ s
only p q = p.answer ∙ sym q.answer

-- a bound on a sum, tested without the sum
pub within_law : (a n k : ℕ) → n ≤ k → leb a (k - n) ≡ leb (a + n) k
within_law a n k l = by (leb (a + n) k) refl
  where
    by : (b : Bool) → leb (a + n) k ≡ b → leb a (k - n) ≡ leb (a + n) k
    by true e = let h : a + n ≤ k = leb-true (a + n) k e in le-leb a (k - n) (omega arith) ∙ sym e
    by false e = let h : k < a + n = leb-false (a + n) k e in lt-leb a (k - n) (omega arith) ∙ sym e

-- two tests
pub first_no : (a b : Bool) → a ≡ false → (a && b) ≡ false
first_no a b e = rw e

pub second_no : (a b : Bool) → b ≡ false → (a && b) ≡ false
second_no true b e = e
second_no false b e = refl

pub both : (a b : Bool) → a ≡ true → b ≡ true → (a && b) ≡ true
both a b e f = rw (e, f)

-- a code and its blocks
pub coded : {d e : List ℕ} {n k : ℕ} → d ≡ e → n ≡ k → ◌≡◌ {A = List ℕ × ℕ} (d, n) (e, k)
coded f g = λ i. (f i, g i)

pub gives_code : {ok : Bool} {d e : List ℕ} {n k : ℕ} → Answer {A = List ℕ × ℕ} ok (d, n) (accept (e, k)) → (ok ≡ true) × (e ≡ d) × (k ≡ n)
gives_code p = let q = gives p in (q.0, (λ i. (q.1 i).0), (λ i. (q.1 i).1))
