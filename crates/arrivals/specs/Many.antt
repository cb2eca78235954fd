-- Many numbers, one after the other (docs/RULES.md, 10.8 and 10.9).
use Rattle.std.specs.Prelude.{ℕ, ◌+◌, max, true, cond, List, [], ◌∷◌, ◌⊎◌, ◌≡◌, leb}
use Rattle.refusal.specs.Order.{Res, refuse, accept}
use Rattle.arrivals.specs.Marks.{marked}
use Rattle.arrivals.specs.Take.{too_old, take_of, kept_by}
use Rattle.arrivals.specs.declared.Arrivals.{Arrivals}

-- a number that is never taken from this record on: it is marked, or too old
abbrev pub Barred : Arrivals → ℕ → Type 0
Barred a n = (marked a n ≡ true) ⊎ (too_old a n ≡ true)

-- the record after all of them
unfoldable pub after_all : Arrivals → List ℕ → Arrivals
after_all a [] = a
after_all a (n ∷ ns) = after_all (kept_by (take_of a n) a) ns

-- a number with those that follow it, where it was taken
abbrev pub with_taken : {A : Type 0} → Res A → ℕ → List ℕ → List ℕ
with_taken (refuse m v) n ns = ns
with_taken (accept b) n ns = n ∷ ns

-- those of them that are taken, in the order of their arrival
unfoldable pub taken_of : Arrivals → List ℕ → List ℕ
taken_of a [] = []
taken_of a (n ∷ ns) = with_taken (take_of a n) n (taken_of (kept_by (take_of a n) a) ns)

-- the highest of some numbers, 0 where there are none
unfoldable pub highest_of : List ℕ → ℕ
highest_of [] = 0
highest_of (n ∷ ns) = max n (highest_of ns)

-- how many of some numbers, h being the highest of them, are among the last 32, those from 31 below h on
unfoldable pub last_of : ℕ → List ℕ → ℕ
last_of h [] = 0
last_of h (n ∷ ns) = cond (leb h (n + 31)) 1 0 + last_of h ns
