-- The 32 marks of a record of arrivals (docs/RULES.md, 10.1 and 10.7): mark k says that the number k below the highest was taken.
use Rattle.std.specs.Prelude.{ℕ, zero, suc, ◌+◌, ◌-◌, ◌/◌, ◌%◌, ◌^◌, Bool, ◌&&◌, cond, eqb, leb, ltb}
use Rattle.arrivals.specs.declared.Arrivals.{Arrivals}

-- mark k of the bits s
unfoldable pub mark_of : ℕ → ℕ → Bool
mark_of s k = eqb (s / 2 ^ k % 2) 1

-- the marks of the bits s when the highest number rises by d: each stands d further down
unfoldable pub moved_up : ℕ → ℕ → ℕ → Bool
moved_up s d k = leb d k && mark_of s (k - d)

-- the bits whose mark k is set exactly where f k holds, for each k below n; no other bit is set
unfoldable pub bits_of : (ℕ → Bool) → ℕ → ℕ
bits_of f zero = 0
bits_of f (suc n) = bits_of f n + cond (f n) (2 ^ n) 0

-- for how many k below n f holds
unfoldable pub count_below : (ℕ → Bool) → ℕ → ℕ
count_below f zero = 0
count_below f (suc n) = count_below f n + cond (f n) 1 0

-- how many of a record's 32 marks are set
abbrev pub count_of : Arrivals → ℕ
count_of a = count_below (mark_of a.seen) 32

-- whether a record says that the number n was taken
unfoldable pub marked : Arrivals → ℕ → Bool
marked a n = leb n a.highest && (ltb (a.highest - n) 32 && mark_of a.seen (a.highest - n))
