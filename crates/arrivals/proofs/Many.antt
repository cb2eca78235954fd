-- Many numbers, one after the other: none is taken twice, whatever the record says at first.
use Prim.Native.Nat.{ℕ, ◌+◌, ◌≤◌, ◌<◌}
use native.Mathlib.Nat.{le-max_left}
use native.Mathlib.Omega.{arith}
use mathlib.Core.Bool.{Bool, true, false, true≢false, ◌||◌, ◌&&◌, not}
use mathlib.Core.List.{List, [], ◌∷◌}
use mathlib.Core.Logic.{inl, inr, ⊎_elim}
use mathlib.Core.Path.{◌≡◌, refl, sym, ◌∙◌, ap, ap₂, subst}
use lib.Dec.{eqb}
use borrow.Author.Tests.{ne_eqb}
use Rattle.refusal.specs.Order.{Res}
use Rattle.refusal.specs.Table.{among, unrepeated}
use Rattle.std.proofs.lemmas.Bool.Decides.{nat_tests}
use Rattle.octets.proofs.Order.{lt_or_le}
use Rattle.arrivals.specs.Marks.{marked}
use Rattle.arrivals.specs.Take.{too_old, taken, take_of, kept_by}
use Rattle.arrivals.specs.Many.{Barred, with_taken, taken_of}
use Rattle.arrivals.specs.declared.Arrivals.{Arrivals}
use Rattle.arrivals.proofs.Steps.{Tried, old, seen_before, new, tried, top_after, marks_after}

-- what is too old stays so as the highest number rises
older : (a b : Arrivals) (n : ℕ) → a.highest ≤ b.highest → too_old a n ≡ true → too_old b n ≡ true
unfolding too_old
older a b n h e = grind (arith, nat_tests)

far_old : (a : Arrivals) (n : ℕ) → n + 31 < a.highest → too_old a n ≡ true
unfolding too_old
far_old a n h = grind (arith, nat_tests)

-- one that is taken is barred, and one that is barred stays so
taken_barred : (a : Arrivals) (n : ℕ) → too_old a n ≡ false → Barred (taken a n) n
taken_barred a n o = inl (grind (arith, nat_tests, marks_after a n n o))

still_barred : (a : Arrivals) (n m : ℕ) → too_old a n ≡ false → Barred a m → Barred (taken a n) m
still_barred a n m o (inr e) = inr (older a (taken a n) m (omega (arith, top_after a n, le-max_left a.highest n)) e)
still_barred a n m o (inl e) =
    ⊎_elim (λ l. inr (far_old (taken a n) m l)) (λ l. inl (grind (arith, nat_tests, marks_after a n m o))) (lt_or_le (m + 31) (taken a n).highest)

-- a number that a record marks, or that is too old for it, is taken at no time
pub never : (a : Arrivals) (ns : List ℕ) (m : ℕ) → Barred a m → among m (taken_of a ns) ≡ false
unfolding taken_of
never a [] m b = refl
never a (n ∷ ns) m b = step (tried a n) (λ r. never r ns m)
  where
    Then : Res Arrivals → Type 0
    Then R = among m (with_taken R n (taken_of (kept_by R a) ns)) ≡ false

    step : Tried a n → ((r : Arrivals) → Barred r m → among m (taken_of r ns) ≡ false) → Then (take_of a n)
    step (old o e) f = subst Then (sym e) (f a b)
    step (seen_before o e) f = subst Then (sym e) (f a b)
    step (new o g e) f = subst Then (sym e) (ap₂ (λ (x z : Bool). x || z) (apart b) (f (taken a n) (still_barred a n m o b)))
      where
        apart : Barred a m → eqb m n ≡ false
        apart (inl h) = ne_eqb m n (λ z. true≢false (sym h ∙ ap (marked a) z ∙ g))
        apart (inr h) = ne_eqb m n (λ z. true≢false (sym h ∙ ap (too_old a) z ∙ o))

-- over any arrivals each number is taken at most once
pub each_once : (a : Arrivals) (ns : List ℕ) → unrepeated (taken_of a ns) ≡ true
unfolding taken_of
each_once a [] = refl
each_once a (n ∷ ns) = step (tried a n) (λ r. each_once r ns)
  where
    Then : Res Arrivals → Type 0
    Then R = unrepeated (with_taken R n (taken_of (kept_by R a) ns)) ≡ true

    step : Tried a n → ((r : Arrivals) → unrepeated (taken_of r ns) ≡ true) → Then (take_of a n)
    step (old o e) f = subst Then (sym e) (f a)
    step (seen_before o e) f = subst Then (sym e) (f a)
    step (new o g e) f = subst Then (sym e) (ap₂ (λ (x z : Bool). not x && z) (never (taken a n) ns n (taken_barred a n o)) (f (taken a n)))
