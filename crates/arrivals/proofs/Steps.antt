-- What taking a number does to the record: its highest number, its marks, and what it says of every number.
use Prim.Native.Nat.{ℕ, ◌+◌, ◌-◌, ◌≤◌, ◌<◌, max}
use native.Mathlib.Nat.{max-eq_left, max-eq_right, le-max_left, le_of_lt}
use native.Mathlib.Omega.{arith}
use mathlib.Core.Bool.{true, false, ◌||◌, ◌&&◌}
use mathlib.Core.Logic.{◌⊎◌, inl, inr, ⊎_elim}
use mathlib.Core.Path.{◌≡◌, refl, sym, ◌∙◌, ap, subst}
use lib.Dec.{eqb, leb}
use Rattle.refusal.specs.Order.{Res, refuse, accept}
use Rattle.refusal.proofs.Order.{refuse≢accept}
use Rattle.std.proofs.lemmas.Bool.Decides.{nat_tests}
use Rattle.octets.proofs.Order.{by_cases, lt_or_le}
use Rattle.arrivals.specs.Marks.{mark_of, moved_up, marked}
use Rattle.arrivals.specs.Take.{too_old, taken, take_of, kept_by}
use Rattle.arrivals.specs.declared.Arrivals.{Arrivals}
use Rattle.arrivals.proofs.Bits.{mark_bits}
use Rattle.arrivals.proofs.Taking.{above_unmarked, below_unmarked, within_marked, young, old_above, taken_above, moved_far}
use Rattle.arrivals.proofs.Promised.{take_old, take-marked, take_new}

-- what taking a number does, by the two tests
pub data Tried (a : Arrivals) (n : ℕ) : Type 0 where
  old : too_old a n ≡ true → take_of a n ≡ refuse 39 0 → Tried a n
  seen_before : marked a n ≡ true → take_of a n ≡ refuse 38 0 → Tried a n
  new : too_old a n ≡ false → marked a n ≡ false → take_of a n ≡ accept (taken a n) → Tried a n

pub tried : (a : Arrivals) (n : ℕ) → Tried a n
tried a n =
    by_cases (too_old a n) (λ e. old e (take_old a n e))
    (λ e. by_cases (marked a n) (λ f. seen_before f (take-marked a n e f)) (λ f. new e f (take_new a n e f)))

-- it refuses by 39 or by 38
pub take_numbers : (a : Arrivals) (n m v : ℕ) → take_of a n ≡ refuse m v → (m ≡ 39) ⊎ (m ≡ 38)
take_numbers a n m v e = by (tried a n)
  where
    by : Tried a n → (m ≡ 39) ⊎ (m ≡ 38)
    by (old o f) = inl (let g = sym e ∙ f in cc)
    by (seen_before o f) = inr (let g = sym e ∙ f in cc)
    by (new o g f) = absurd (refuse≢accept m v _ (sym e ∙ f))

-- the highest number after n is taken
pub top_after : (a : Arrivals) (n : ℕ) → (taken a n).highest ≡ max a.highest n
unfolding taken
top_after a n = refl

-- and the marks
pub mark_after : (a : Arrivals) (n k : ℕ) → k < 32
    → mark_of (taken a n).seen k ≡ (eqb (n + k) (max a.highest n) || moved_up a.seen (max a.highest n - a.highest) k)
unfolding taken
mark_after a n k h = mark_bits (λ k. eqb (n + k) (max a.highest n) || moved_up a.seen (max a.highest n - a.highest) k) 32 k h

-- a number's mark, where the highest number has risen to t
mark_kept : (a : Arrivals) (m t : ℕ) → a.highest ≤ t → m ≤ t → t - m ≤ 31 → moved_up a.seen (t - a.highest) (t - m) ≡ marked a m
unfolding moved_up marked
mark_kept a m t h l g = ⊎_elim (λ f. grind (arith, nat_tests)) (λ f. grind (arith, nat_tests, ap (mark_of a.seen) (mark_place a m t h f))) (lt_or_le a.highest m)
  where
    mark_place : (a : Arrivals) (m t : ℕ) → a.highest ≤ t → m ≤ a.highest → t - m - (t - a.highest) ≡ a.highest - m
    mark_place a m t h f = omega arith

-- what the record says of a number m once n is taken: m is n, or was marked before and is still among the last 32
pub marks_after : (a : Arrivals) (n m : ℕ) → too_old a n ≡ false
    → marked (taken a n) m ≡ (eqb m n || (marked a m && leb (taken a n).highest (m + 31)))
marks_after a n m o = ⊎_elim above (λ l. ⊎_elim far (within l) (lt_or_le 31 (t - m))) (lt_or_le t m)
  where
    t : ℕ
    t = (taken a n).highest

    e : t ≡ max a.highest n
    e = top_after a n

    y : (n ≡ 0 → ⊥) × (a.highest ≤ n + 31)
    y = young a n o

    Says : Type 0
    Says = marked (taken a n) m ≡ (eqb m n || (marked a m && leb t (m + 31)))

    above : t < m → Says
    above l = grind (arith, nat_tests, e, above_unmarked (taken a n) m l, above_unmarked a m (omega (arith, e, l)))

    far : 31 < t - m → Says
    far l = grind (arith, nat_tests, e, y.1, below_unmarked (taken a n) m l)

    within : m ≤ t → t - m ≤ 31 → Says
    within l g =
        within_marked (taken a n) m l g ∙ mark_after a n (t - m) (omega (arith, g))
        ∙ grind (arith, nat_tests, e, mark_kept a m (max a.highest n) (le-max_left a.highest n) (omega (arith, e, l)) (omega (arith, e, g)))

-- a higher number is taken, and the record moves up to it
pub higher : (a : Arrivals) (n : ℕ) → a.highest < n → (take_of a n ≡ accept (taken a n)) × ((taken a n).highest ≡ n)
higher a n h = (
  take_new a n (sym (old_above a n (λ e. omega arith) (le_of_lt h))) (above_unmarked a n h),
  top_after a n ∙ max-eq_right (le_of_lt h),
)

-- where it is 32 or more above, its mark is the only one
pub cleared : (a : Arrivals) (n : ℕ) → a.highest + 32 ≤ n → taken a n ≡ record { highest = n; seen = 1 }
cleared a n h = sym (taken_above a n (omega arith) 1 (moved_far a.seen (n - a.highest) (omega arith)))

-- and nothing is higher than 4,294,967,295: there the record stays where it is
pub no_higher : (a : Arrivals) (n : ℕ) → a.highest ≡ 4294967295 → n ≤ 4294967295 → (kept_by (take_of a n) a).highest ≡ 4294967295
no_higher a n e h = stays (tried a n)
  where
    stays : Tried a n → (kept_by (take_of a n) a).highest ≡ 4294967295
    stays (old o f) = ap (λ (x : Res Arrivals). (kept_by x a).highest) f ∙ e
    stays (seen_before o f) = ap (λ (x : Res Arrivals). (kept_by x a).highest) f ∙ e
    stays (new o m f) = ap (λ (x : Res Arrivals). (kept_by x a).highest) f ∙ top_after a n ∙ max-eq_left (subst (λ (x : ℕ). n ≤ x) (sym e) h) ∙ e

-- the highest number never falls
pub rises : (a : Arrivals) (n : ℕ) → a.highest ≤ (kept_by (take_of a n) a).highest
rises a n = by (tried a n)
  where
    by : Tried a n → a.highest ≤ (kept_by (take_of a n) a).highest
    by (old o f) = subst (λ (x : Res Arrivals). a.highest ≤ (kept_by x a).highest) (sym f) (omega arith)
    by (seen_before o f) = subst (λ (x : Res Arrivals). a.highest ≤ (kept_by x a).highest) (sym f) (omega arith)
    by (new o m f) = subst (λ (x : Res Arrivals). a.highest ≤ (kept_by x a).highest) (sym f) (omega (arith, top_after a n, le-max_left a.highest n))
