-- The promise of taking a number, from what the two tests find.
use Prim.Native.Nat.{ℕ}
use mathlib.Core.Bool.{true, false, not}
use mathlib.Core.Path.{◌≡◌, refl, ap}
use Rattle.refusal.specs.Order.{accept, refuse}
use Rattle.refusal.proofs.Order.{pass, need_no}
use Rattle.arrivals.specs.Marks.{marked}
use Rattle.arrivals.specs.Take.{too_old, taken, take_of}
use Rattle.arrivals.specs.declared.Arrivals.{Arrivals}

-- what taking a number answers, by the two tests
pub take_old : (a : Arrivals) (n : ℕ) → too_old a n ≡ true → take_of a n ≡ refuse 39 0
unfolding take_of
take_old a n e = need_no (not (too_old a n)) 39 0 _ (ap not e)

pub take-marked : (a : Arrivals) (n : ℕ) → too_old a n ≡ false → marked a n ≡ true → take_of a n ≡ refuse 38 0
unfolding take_of
take-marked a n e f = pass (not (too_old a n)) 39 0 _ (ap not e) (need_no (not (marked a n)) 38 0 _ (ap not f))

pub take_new : (a : Arrivals) (n : ℕ) → too_old a n ≡ false → marked a n ≡ false → take_of a n ≡ accept (taken a n)
unfolding take_of
take_new a n e f = pass (not (too_old a n)) 39 0 _ (ap not e) (pass (not (marked a n)) 38 0 _ (ap not f) refl)
