-- Taking a number, as the code does it: which tests decide, and the record that comes of it.
use Prim.Native.Nat.{ℕ, ◌+◌, ◌-◌, ◌*◌, ◌%◌, ◌^◌, ◌<◌, ◌≤◌, max}
use native.Mathlib.Nat.{max-eq_left, max-eq_right, mod-lt, le_of_lt}
use native.Mathlib.Omega.{arith}
use mathlib.Core.Bool.{Bool, false, ◌||◌, ◌&&◌, or-false, or_comm}
use mathlib.Core.Logic.{⊎_elim}
use mathlib.Core.Path.{◌≡◌, sym, ◌∙◌, ap, ap₂}
use lib.Bits.{bit_or, or_lt}
use lib.Dec.{eqb, leb, lit<}
use lib.Pow.{pow_pos}
use borrow.Author.Tests.{ne_eqb, le-leb, lt-leb}
use Rattle.std.proofs.lemmas.Bool.Decides.{nat_tests}
use Rattle.octets.proofs.Order.{lt_or_le}
use Rattle.arrivals.specs.Marks.{mark_of, moved_up, bits_of, marked}
use Rattle.arrivals.specs.Take.{too_old, taken}
use Rattle.arrivals.specs.declared.Arrivals.{Arrivals}
use Rattle.arrivals.proofs.Bits.{bits_known, bits_agree, mark_or, mark_shifted, mark_one}

-- two tests of numbers that hold together are one test
pub eqb_same : (a b c d : ℕ) → (a ≡ b → c ≡ d) → (c ≡ d → a ≡ b) → eqb a b ≡ eqb c d
eqb_same a b c d f g = grind (arith, nat_tests)

-- a number not below the highest is not too old
pub old_above : (a : Arrivals) (n : ℕ) → (n ≡ 0 → ⊥) → a.highest ≤ n → false ≡ too_old a n
unfolding too_old
old_above a n e h = grind (arith, nat_tests)

-- what a number that is not too old is
pub young : (a : Arrivals) (n : ℕ) → too_old a n ≡ false → (n ≡ 0 → ⊥) × (a.highest ≤ n + 31)
unfolding too_old
young a n e = (grind (arith, nat_tests), grind (arith, nat_tests))

-- a higher number is not marked
pub above_unmarked : (a : Arrivals) (n : ℕ) → a.highest < n → marked a n ≡ false
unfolding marked
above_unmarked a n h = grind (arith, nat_tests)

-- nor is one too far below
pub below_unmarked : (a : Arrivals) (n : ℕ) → 31 < a.highest - n → marked a n ≡ false
unfolding marked
below_unmarked a n h = grind (arith, nat_tests)

pub within_marked : (a : Arrivals) (n : ℕ) → n ≤ a.highest → a.highest - n ≤ 31 → marked a n ≡ mark_of a.seen (a.highest - n)
unfolding marked
within_marked a n h g = grind (arith, nat_tests)

-- a record that has the highest number and the marks is the one
made : (a : Arrivals) (n : ℕ) (x : Arrivals) → x.highest ≡ max a.highest n
    → x.seen ≡ bits_of (λ k. eqb (n + k) x.highest || moved_up a.seen (x.highest - a.highest) k) 32 → x ≡ taken a n
unfolding taken
made a n x e f =
    λ i. record {
      highest = e i;
      seen = (f ∙ ap (λ (t : ℕ). bits_of (λ k. eqb (n + k) t || moved_up a.seen (t - a.highest) k) 32) e) i;
    }

-- moving up by 32 or more leaves one mark, moving up by less shifts the marks
pub moved_far : (s d : ℕ) → 31 < d → 1 ≡ bits_of (λ k. eqb k 0 || moved_up s d k) 32
unfolding moved_up
moved_far s d h =
    bits_known 1 32 _ (lit< tt)
    (λ k l. mark_one k ∙ sym (ap (λ (b : Bool). eqb k 0 || (b && mark_of s (k - d))) (lt-leb d k (omega arith)) ∙ or-false (eqb k 0)))

pub moved_near : (s d : ℕ) → bit_or (s * 2 ^ d % 2 ^ 32) 1 ≡ bits_of (λ k. eqb k 0 || moved_up s d k) 32
unfolding moved_up
moved_near s d =
    bits_known _ 32 _ (or_lt 32 _ 1 (mod-lt (s * 2 ^ d) (pow_pos 32)) (lit< tt))
    (λ k l. mark_or _ 1 k ∙ ap₂ (λ (b c : Bool). b || c) (mark_shifted s d 32 k l) (mark_one k) ∙ or_comm _ (eqb k 0))

-- a higher number
pub taken_above : (a : Arrivals) (n : ℕ) → a.highest < n → (s : ℕ) → s ≡ bits_of (λ k. eqb k 0 || moved_up a.seen (n - a.highest) k) 32
    → record { highest = n; seen = s } ≡ taken a n
taken_above a n h s e =
    made a n (record { highest = n; seen = s }) (sym (max-eq_right (le_of_lt h)))
    (e ∙ bits_agree _ _ 32 (λ k _. ap (λ (b : Bool). b || moved_up a.seen (n - a.highest) k) (eqb_same k 0 (n + k) n (λ z. omega arith) (λ z. omega arith))))

-- a lower one, whose mark is set where it belongs
pub taken_below : (a : Arrivals) (n : ℕ) → n ≤ a.highest → a.highest - n ≤ 31 → a.seen < 2 ^ 32
    → record { highest = a.highest; seen = bit_or a.seen (1 * 2 ^ (a.highest - n) % 2 ^ 32) } ≡ taken a n
unfolding moved_up
taken_below a n h g f =
    made a n _ (sym (max-eq_left h))
    (bits_known _ 32 _ (or_lt 32 _ _ f (mod-lt _ (pow_pos 32)))
    (λ k l. mark_or _ _ k ∙ ap₂ (λ (b c : Bool). b || c) (sym (unmoved k)) (mark_shifted 1 (a.highest - n) 32 k l ∙ placed k)
    ∙ or_comm _ (eqb (n + k) a.highest)))
  where
    unmoved : (k : ℕ) → (leb (a.highest - a.highest) k && mark_of a.seen (k - (a.highest - a.highest))) ≡ mark_of a.seen k
    unmoved k =
        let z : a.highest - a.highest ≡ 0 = omega arith in
        ap (λ (x : ℕ). leb x k && mark_of a.seen (k - x)) z ∙ ap₂ (λ (b : Bool) (x : ℕ). b && mark_of a.seen x) (le-leb 0 k (omega arith)) (omega arith)

    placed : (k : ℕ) → (leb (a.highest - n) k && mark_of 1 (k - (a.highest - n))) ≡ eqb (n + k) a.highest
    placed k =
        ⊎_elim
        (λ l. ap (λ (b : Bool). b && mark_of 1 (k - (a.highest - n))) (lt-leb _ k l) ∙ sym (ne_eqb (n + k) a.highest (λ e. omega arith)))
        (λ l. ap (λ (b : Bool). b && mark_of 1 (k - (a.highest - n))) (le-leb _ k l) ∙ mark_one _
        ∙ eqb_same _ 0 (n + k) _ (λ (e : k - (a.highest - n) ≡ 0). omega arith) (λ (e : n + k ≡ a.highest). omega arith))
        (lt_or_le k (a.highest - n))
