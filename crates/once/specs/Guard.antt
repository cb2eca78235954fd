-- Reading once (docs/RULES.md, 10.11 and 10.12): what every check lets pass is then decided by its number.
use Rattle.std.specs.Prelude.{ℕ}
use Rattle.refusal.specs.Order.{Res, accept, and_then}
use Rattle.arrivals.specs.Take.{take_of, kept_by}
use Rattle.arrivals.specs.declared.Arrivals.{Arrivals}

-- what reading finds, behind the guard: reading's refusal stands; else the number's (`number` tells which it is); else what was found
unfoldable pub guard : {A : Type 0} → (A → ℕ) → Arrivals → Res A → Res A
guard number a R = and_then R (λ x. and_then (take_of a (number x)) (λ _. accept x))

-- the record after it: it moves where the number is taken, and any refusal leaves it
unfoldable pub record_after : {A : Type 0} → (A → ℕ) → Arrivals → Res A → Arrivals
record_after number a R = kept_by (and_then R (λ x. take_of a (number x))) a
