-- Laws of the guard: what it does to an answer, to what is told of it and to a buffer.
use Prim.Native.Nat.{ℕ}
use mathlib.Core.Path.{◌≡◌, refl, ◌∙◌, ap}
use Rattle.refusal.specs.Order.{Res, refuse, accept, and_then}
use Rattle.refusal.proofs.Order.{then_accept, then_refuse}
use Rattle.framing.specs.Packet.{Message}
use Rattle.framing.specs.Told.{shown}
use Rattle.arrivals.specs.Take.{take_of, kept_by}
use Rattle.arrivals.specs.declared.Arrivals.{Arrivals}
use Rattle.once.specs.Guard.{guard, record_after}

module _ {A : Type 0} (number : A → ℕ) (a : Arrivals) where
  -- a refusal of reading's stands, and leaves the record
  pub guard_refuse : (R : Res A) (n v : ℕ) → R ≡ refuse n v → (guard number a R ≡ refuse n v) × (record_after number a R ≡ a)
  unfolding guard record_after
  guard_refuse R n v e = (then_refuse R _ n v e, ap (λ (x : Res Arrivals). kept_by x a) (then_refuse R _ n v e))

  -- a number that is refused
  pub guard_number : (R : Res A) (x : A) (n v : ℕ) → R ≡ accept x → take_of a (number x) ≡ refuse n v
      → (guard number a R ≡ refuse n v) × (record_after number a R ≡ a)
  unfolding guard record_after
  guard_number R x n v e f = (
    then_accept R _ x e ∙ then_refuse (take_of a (number x)) _ n v f,
    ap (λ (y : Res Arrivals). kept_by y a) (then_accept R _ x e ∙ f),
  )

  -- a number that is taken
  pub guard_taken : (R : Res A) (x : A) (b : Arrivals) → R ≡ accept x → take_of a (number x) ≡ accept b
      → (guard number a R ≡ accept x) × (record_after number a R ≡ b)
  unfolding guard record_after
  guard_taken R x b e f = (
    then_accept R _ x e ∙ then_accept (take_of a (number x)) _ b f,
    ap (λ (y : Res Arrivals). kept_by y a) (then_accept R _ x e ∙ f),
  )

  -- one of the three it is
  pub data Cases (R : Res A) : Type 0 where
    by_reading : (n v : ℕ) → R ≡ refuse n v → Cases R
    by_number : (x : A) (n v : ℕ) → R ≡ accept x → take_of a (number x) ≡ refuse n v → Cases R
    taken : (x : A) (b : Arrivals) → R ≡ accept x → take_of a (number x) ≡ accept b → Cases R

  pub cases : (R : Res A) → Cases R
  cases (refuse n v) = by_reading n v refl
  cases (accept x) = number_cases (take_of a (number x)) refl
    where
      number_cases : (T : Res Arrivals) → take_of a (number x) ≡ T → Cases (accept x)
      number_cases (refuse n v) e = by_number x n v refl e
      number_cases (accept b) e = taken x b refl e

-- what is told of a message has its number, so the guard may come before the telling or behind it
pub guard-shown : (a : Arrivals) (R : Res Message) → guard (λ x. x.seq) a (shown R) ≡ shown (guard (λ M. M.seq) a R)
unfolding guard shown and_then
guard-shown a (refuse n v) = refl
guard-shown a (accept M) = by (take_of a M.seq)
  where
    by : (T : Res Arrivals) → and_then T (λ _. shown (accept M)) ≡ shown (and_then T (λ _. accept M))
    by (refuse n v) = refl
    by (accept b) = refl

pub record_shown : (a : Arrivals) (R : Res Message) → record_after (λ x. x.seq) a (shown R) ≡ record_after (λ M. M.seq) a R
unfolding record_after shown and_then
record_shown a (refuse n v) = refl
record_shown a (accept M) = refl
