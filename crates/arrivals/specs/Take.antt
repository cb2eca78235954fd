-- Taking a number (docs/RULES.md, 10.2 to 10.6).
use Rattle.std.specs.Prelude.{ℕ, ◌+◌, ◌-◌, max, Bool, ◌||◌, not, eqb, ltb}
use Rattle.refusal.specs.Order.{Res, need, accept, refuse}
use Rattle.arrivals.specs.Marks.{moved_up, bits_of, marked}
use Rattle.arrivals.specs.declared.Arrivals.{Arrivals}

-- a new record: highest number 0 and no arrivals
abbrev pub fresh : Arrivals
fresh = record { highest = 0; seen = 0 }

-- zero, or more than 31 below the highest
unfoldable pub too_old : Arrivals → ℕ → Bool
too_old a n = eqb n 0 || ltb (n + 31) a.highest

-- the record when n is taken: it moves up to n if n is higher, and n is marked; marks that move past the last of the 32 are gone
unfoldable pub taken : Arrivals → ℕ → Arrivals
taken a n =
    let top = max a.highest n in
    record { highest = top; seen = bits_of (λ k. eqb (n + k) top || moved_up a.seen (top - a.highest) k) 32 }

-- the order of the refusals
unfoldable pub take_of : Arrivals → ℕ → Res Arrivals
take_of a n = need (not (too_old a n)) 39 0 (need (not (marked a n)) 38 0 (accept (taken a n)))

-- the record after a call: a refusal leaves it as it was
abbrev pub kept_by : Res Arrivals → Arrivals → Arrivals
kept_by (refuse m v) a = a
kept_by (accept b) a = b
