-- What a record says that began as a new one: its highest number is the highest taken, its marks are the numbers taken among the last 32, and
-- there are as many.
use Prim.Native.Nat.{ℕ, zero, suc, ◌+◌, ◌-◌, ◌%◌, ◌^◌, ◌≤◌, ◌<◌, max}
use native.Mathlib.Nat.{le_of_eq, zero-div, le-max_left, le-max_right, max_comm}
use native.Mathlib.Omega.{arith}
use mathlib.Core.Bool.{Bool, true, false, true≢false, cond, ◌||◌, ◌&&◌, not, and-false, and-or_distrib_left}
use mathlib.Core.List.{List, [], ◌∷◌, ◌++◌, append_assoc, append-nil}
use mathlib.Core.Logic.{⊎_elim}
use mathlib.Core.Path.{◌≡◌, refl, sym, ◌∙◌, ap, ap₂, subst}
use lib.Dec.{eqb, leb, ltb}
use borrow.Author.Tests.{eqb-true, eqb-false, ne_eqb, le-leb, le-ltb, not-true}
use Rattle.refusal.specs.Order.{Res, refuse, accept}
use Rattle.refusal.specs.Table.{among, unrepeated}
use Rattle.octets.proofs.Equal.{and_inv}
use Rattle.std.proofs.lemmas.Bool.Decides.{nat_tests}
use Rattle.octets.proofs.Order.{lt_or_le}
use Rattle.arrivals.specs.Marks.{mark_of, moved_up, count_below, count_of, marked}
use Rattle.arrivals.specs.Take.{fresh, too_old, taken, take_of, kept_by}
use Rattle.arrivals.specs.Many.{after_all, with_taken, taken_of, highest_of, last_of}
use Rattle.arrivals.specs.declared.Arrivals.{Arrivals}
use Rattle.arrivals.proofs.Taking.{above_unmarked, below_unmarked, within_marked, young, eqb_same}
use Rattle.arrivals.proofs.Promised.{take-marked, take_new}
use Rattle.arrivals.proofs.Steps.{Tried, old, seen_before, new, tried, top_after, mark_after}
use Rattle.arrivals.proofs.Many.{each_once}

-- whether one of some numbers lies k below h
abbrev lies : ℕ → ℕ → List ℕ → Bool
lies k h [] = false
lies k h (x ∷ xs) = eqb (x + k) h || lies k h xs

-- a record that says which numbers were taken
record Says (a : Arrivals) (ts : List ℕ) : Type 0 where
  highest : a.highest ≡ highest_of ts
  marks : (k : ℕ) → k < 32 → mark_of a.seen k ≡ lies k a.highest ts

highest_more : (ts : List ℕ) (n : ℕ) → highest_of (ts ++ n ∷ []) ≡ max (highest_of ts) n
unfolding highest_of
highest_more [] n = max_comm n 0
highest_more (x ∷ xs) n = ap (max x) (highest_more xs n) ∙ omega arith

lies_more : (k h : ℕ) (ts : List ℕ) (n : ℕ) → lies k h (ts ++ n ∷ []) ≡ (eqb (n + k) h || lies k h ts)
lies_more k h [] n = refl
lies_more k h (x ∷ xs) n = ap (λ (b : Bool). eqb (x + k) h || b) (lies_more k h xs n) ∙ or_left (eqb (x + k) h) (eqb (n + k) h) (lies k h xs)
  where
    or_left : (a b c : Bool) → (a || (b || c)) ≡ (b || (a || c))
    or_left true true c = refl
    or_left true false c = refl
    or_left false b c = refl

-- the numbers that lie k below a higher one are those that lie so much less below the old one
one-moved : (x k h t : ℕ) → x ≤ h → h ≤ t → (leb (t - h) k && eqb (x + (k - (t - h))) h) ≡ eqb (x + k) t
one-moved x k h t b l = grind (arith, nat_tests)

lies-moved : (ts : List ℕ) (k h t : ℕ) → highest_of ts ≤ h → h ≤ t → (leb (t - h) k && lies (k - (t - h)) h ts) ≡ lies k t ts
unfolding highest_of
lies-moved [] k h t b l = and-false (leb (t - h) k)
lies-moved (x ∷ xs) k h t b l =
    and-or_distrib_left (leb (t - h) k) _ _
    ∙ ap₂ (λ (y z : Bool). y || z) (one-moved x k h t (omega (arith, b, le-max_left x (highest_of xs))) l)
    (lies-moved xs k h t (omega (arith, b, le-max_right x (highest_of xs))) l)

-- taking a number
says-more : (a : Arrivals) (ts : List ℕ) (n : ℕ) → Says a ts → Says (taken a n) (ts ++ n ∷ [])
unfolding moved_up
says-more a ts n s =
    let t = max a.highest n in
    record {
      highest = top_after a n ∙ ap (λ (x : ℕ). max x n) s.highest ∙ sym (highest_more ts n);
      marks =
          λ k h.
          mark_after a n k h
          ∙ ap (λ (b : Bool). eqb (n + k) t || b)
          (ap (λ (b : Bool). leb (t - a.highest) k && b) (s.marks (k - (t - a.highest)) (omega arith))
          ∙ lies-moved ts k a.highest t (omega (arith, s.highest)) (le-max_left a.highest n))
          ∙ sym (lies_more k t ts n) ∙ ap (λ (x : ℕ). lies k x (ts ++ n ∷ [])) (sym (top_after a n));
    }

says_all : (a : Arrivals) (ts ns : List ℕ) → Says a ts → Says (after_all a ns) (ts ++ taken_of a ns)
unfolding after_all taken_of
says_all a ts [] s = subst (Says a) (sym (append-nil ts)) s
says_all a ts (n ∷ ns) s = step (tried a n) (λ r xs. says_all r xs ns)
  where
    Then : Res Arrivals → Type 0
    Then R = Says (after_all (kept_by R a) ns) (ts ++ with_taken R n (taken_of (kept_by R a) ns))

    step : Tried a n → ((r : Arrivals) (xs : List ℕ) → Says r xs → Says (after_all r ns) (xs ++ taken_of r ns)) → Then (take_of a n)
    step (old o e) f = subst Then (sym e) (f a ts s)
    step (seen_before o e) f = subst Then (sym e) (f a ts s)
    step (new o g e) f =
        subst Then (sym e)
        (subst (Says (after_all (taken a n) ns)) (append_assoc ts (n ∷ []) (taken_of (taken a n) ns)) (f (taken a n) (ts ++ n ∷ []) (says-more a ts n s)))

-- a new record says that none was
says_none : Says fresh []
unfolding mark_of highest_of
says_none = record { highest = refl; marks = λ k h. ap (λ (x : ℕ). eqb (x % 2) 1) (zero-div (2 ^ k)) }

says : (ns : List ℕ) → Says (after_all fresh ns) (taken_of fresh ns)
says ns = says_all fresh [] ns says_none

-- the highest number of the record is the highest that was taken
pub highest_taken : (ns : List ℕ) → (after_all fresh ns).highest ≡ highest_of (taken_of fresh ns)
highest_taken ns = (says ns).highest

-- the number that lies as far below h as m does is m
lies_at : (m h : ℕ) (ts : List ℕ) → m ≤ h → lies (h - m) h ts ≡ among m ts
lies_at m h [] l = refl
lies_at m h (x ∷ xs) l =
    ap₂ (λ (b c : Bool). b || c) (eqb_same (x + (h - m)) h m x (λ e. omega (arith, e, l)) (λ e. omega (arith, e, l))) (lies_at m h xs l)

none_above : (m : ℕ) (ts : List ℕ) → highest_of ts < m → among m ts ≡ false
unfolding highest_of
none_above m [] l = refl
none_above m (x ∷ xs) l =
    ap₂ (λ (b c : Bool). b || c) (ne_eqb m x (λ e. omega (arith, e, l, le-max_left x (highest_of xs))))
    (none_above m xs (omega (arith, l, le-max_right x (highest_of xs))))

-- it marks a number exactly when that was taken and is among the last 32
pub marked_taken : (ns : List ℕ) (m : ℕ)
    → marked (after_all fresh ns) m ≡ (among m (taken_of fresh ns) && leb (highest_of (taken_of fresh ns)) (m + 31))
marked_taken ns m = ⊎_elim above (λ l. ⊎_elim far (within l) (lt_or_le 31 (a.highest - m))) (lt_or_le a.highest m)
  where
    a : Arrivals
    a = after_all fresh ns

    ts : List ℕ
    ts = taken_of fresh ns

    e : a.highest ≡ highest_of ts
    e = (says ns).highest

    Right : Type 0
    Right = marked a m ≡ (among m ts && leb (highest_of ts) (m + 31))

    above : a.highest < m → Right
    above l = grind (arith, nat_tests, e, above_unmarked a m l, none_above m ts (omega (arith, e, l)))

    far : 31 < a.highest - m → Right
    far l = grind (arith, nat_tests, e, below_unmarked a m l)

    within : m ≤ a.highest → a.highest - m ≤ 31 → Right
    within l g =
        within_marked a m l g ∙ (says ns).marks (a.highest - m) (omega (arith, g)) ∙ lies_at m a.highest ts l
        ∙ grind (arith, nat_tests, e)

-- so a number that is not too old is refused where it was taken before, and is taken where it was not
pub again : (ns : List ℕ) (m : ℕ) → too_old (after_all fresh ns) m ≡ false → among m (taken_of fresh ns) ≡ true → take_of (after_all fresh ns) m ≡ refuse 38 0
again ns m o e =
    let l : highest_of (taken_of fresh ns) ≤ m + 31 = subst (λ (x : ℕ). x ≤ m + 31) (highest_taken ns) (young (after_all fresh ns) m o).1 in
    take-marked _ m o (marked_taken ns m ∙ ap₂ (λ (x y : Bool). x && y) e (le-leb (highest_of (taken_of fresh ns)) (m + 31) l))

pub first_time : (ns : List ℕ) (m : ℕ) → too_old (after_all fresh ns) m ≡ false → among m (taken_of fresh ns) ≡ false
    → take_of (after_all fresh ns) m ≡ accept (taken (after_all fresh ns) m)
first_time ns m o e = take_new _ m o (marked_taken ns m ∙ ap (λ (x : Bool). x && leb (highest_of (taken_of fresh ns)) (m + 31)) e)

-- the count of two things that exclude each other
count_agree : (f g : ℕ → Bool) (w : ℕ) → ((k : ℕ) → k < w → f k ≡ g k) → count_below f w ≡ count_below g w
unfolding count_below
count_agree f g zero e = refl
count_agree f g (suc w) e = ap₂ ◌+◌ (count_agree f g w (λ k h. e k (omega arith))) (ap (λ (b : Bool). cond b 1 0) (e w (omega arith)))

count_or : (f g : ℕ → Bool) (w : ℕ) → ((k : ℕ) → f k ≡ true → g k ≡ false) → count_below (λ k. f k || g k) w ≡ count_below f w + count_below g w
unfolding count_below
count_or f g zero e = refl
count_or f g (suc w) e = omega (arith, count_or f g w e, both (f w) (g w) (e w))
  where
    both : (a b : Bool) → (a ≡ true → b ≡ false) → cond (a || b) 1 0 ≡ cond a 1 0 + cond b 1 0
    both true true h = absurd (true≢false (h refl))
    both true false h = refl
    both false b h = omega arith

-- one number lies at one place
one_more : (x h w : ℕ) → x ≤ h → cond (ltb (h - x) w) 1 0 + cond (eqb (x + w) h) 1 0 ≡ cond (ltb (h - x) (suc w)) 1 0
one_more x h w l = grind (arith, nat_tests)

count_one : (x h w : ℕ) → x ≤ h → count_below (λ k. eqb (x + k) h) w ≡ cond (ltb (h - x) w) 1 0
unfolding count_below
count_one x h zero l = sym (ap (λ (b : Bool). cond b 1 0) (le-ltb (h - x) 0 (omega arith)))
count_one x h (suc w) l = ap (λ (y : ℕ). y + cond (eqb (x + w) h) 1 0) (count_one x h w l) ∙ one_more x h w l

or_none : (a b : Bool) → (a || b) ≡ false → (a ≡ false) × (b ≡ false)
or_none true b e = absurd (true≢false e)
or_none false b e = (refl, e)

-- numbers of which none is repeated lie at as many places as they are
apart : (x k h : ℕ) (xs : List ℕ) → among x xs ≡ false → x + k ≡ h → lies k h xs ≡ false
apart x k h [] n e = refl
apart x k h (y ∷ ys) n e =
    let m = or_none (eqb x y) (among x ys) n in
    ap₂ (λ (b c : Bool). b || c) (ne_eqb (y + k) h (λ f. eqb-false x y m.0 (omega (arith, e, f)))) (apart x k h ys m.1 e)

near : (x h : ℕ) → x ≤ h → ltb (h - x) 32 ≡ leb h (x + 31)
near x h l = grind (arith, nat_tests)

count_lies : (h : ℕ) (ts : List ℕ) → unrepeated ts ≡ true → highest_of ts ≤ h → count_below (λ k. lies k h ts) 32 ≡ last_of h ts
unfolding last_of highest_of count_below
count_lies h [] u b = none 32
  where
    none : (w : ℕ) → count_below (λ _. false) w ≡ 0
    none zero = refl
    none (suc w) = omega (arith, none w)
count_lies h (x ∷ xs) u b =
    let m = and_inv (not (among x xs)) (unrepeated xs) u in
    let l : x ≤ h = omega (arith, b, le-max_left x (highest_of xs)) in
    count_or (λ k. eqb (x + k) h) (λ k. lies k h xs) 32 (λ k e. apart x k h xs (not-true (among x xs) m.0) (eqb-true (x + k) h e))
    ∙ ap₂ ◌+◌ (count_one x h 32 l ∙ ap (λ (b : Bool). cond b 1 0) (near x h l)) (count_lies h xs m.1 (omega (arith, b, le-max_right x (highest_of xs))))

-- the count of the marks is how many numbers among the last 32 were taken
pub count_taken : (ns : List ℕ) → count_of (after_all fresh ns) ≡ last_of (highest_of (taken_of fresh ns)) (taken_of fresh ns)
count_taken ns =
    let s = says ns in
    count_agree _ _ 32 s.marks ∙ count_lies _ (taken_of fresh ns) (each_once fresh ns) (le_of_eq (sym s.highest))
    ∙ ap (λ (h : ℕ). last_of h (taken_of fresh ns)) s.highest

-- so is that of any record that some numbers leave of a new one
pub counted : (a : Arrivals) → a ≡ fresh → (ts ns : List ℕ) (r : Arrivals) → ts ≡ taken_of a ns → r ≡ after_all a ns → count_of r ≡ last_of (highest_of ts) ts
counted a n ts ns r e f =
    ap count_of (f ∙ ap (λ (x : Arrivals). after_all x ns) n) ∙ count_taken ns
    ∙ ap (λ (xs : List ℕ). last_of (highest_of xs) xs) (sym (e ∙ ap (λ (x : Arrivals). taken_of x ns) n))
