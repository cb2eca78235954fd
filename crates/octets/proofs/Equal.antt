-- Laws of the test for equal lists, and of the sum of differences by which code compares.
use Prim.Native.Nat.{ℕ, suc, ◌+◌, ◌<◌}
use native.Mathlib.Omega.{arith}
use native.Mathlib.Nat.{le_of_lt}
use native.Mathlib.Numerals.{add-one}
use mathlib.Core.Bool.{Bool, true, false, ◌&&◌, true≢false, false≢true, and-true, and-false, and_assoc}
use mathlib.Core.List.{List, [], ◌∷◌, ◌++◌}
use mathlib.Core.Path.{◌≡◌, refl, sym, ◌∙◌, ap, ap₂}
use lib.Bits.{bit_or, bit_xor, or_add_and, xor_add_and, and_le_l, and_le_r, xor_self, or_zero_l}
use lib.Dec.{eqb}
use lib.ListN.{length, take, get_or}
use lib.Seq.{take-suc, length-take-le}
use borrow.Author.Tests.{eqb-true, eqb-false, eq-eqb, ne_eqb}
use Rattle.octets.specs.Equal.{same}

-- two tests that pass together pass each
pub and_inv : (s t : Bool) → (s && t) ≡ true → (s ≡ true) × (t ≡ true)
and_inv true true e = (refl, refl)
and_inv true false e = absurd (false≢true e)
and_inv false t e = absurd (false≢true e)

-- the test is true of equal lists
pub same_self : (l : List ℕ) → same l l ≡ true
same_self [] = refl
same_self (x ∷ l) = ap₂ ◌&&◌ (eq-eqb x x refl) (same_self l)

-- and of no others
pub same_true : (l m : List ℕ) → same l m ≡ true → l ≡ m
same_true [] [] e = refl
same_true [] (y ∷ m) e = absurd (false≢true e)
same_true (x ∷ l) [] e = absurd (false≢true e)
same_true (x ∷ l) (y ∷ m) e =
    let h = and_inv (eqb x y) (same l m) e in
    ap₂ ◌∷◌ (eqb-true x y h.0) (same_true l m h.1)

pub same_false : (l m : List ℕ) → same l m ≡ false → l ≡ m → ⊥
same_false l m e p = true≢false (sym (same_self l) ∙ ap (same l) p ∙ e)

-- lists of two lengths differ
pub same_lengths : (l m : List ℕ) → (length l ≡ length m → ⊥) → same l m ≡ false
same_lengths [] [] n = absurd (n refl)
same_lengths [] (y ∷ m) n = refl
same_lengths (x ∷ l) [] n = refl
same_lengths (x ∷ l) (y ∷ m) n = ap (λ (t : Bool). eqb x y && t) (same_lengths l m (λ e. n (ap suc e))) ∙ and-false (eqb x y)

-- one element more
pub same-snoc : (l m : List ℕ) (x y : ℕ) → length l ≡ length m → same (l ++ (x ∷ [])) (m ++ (y ∷ [])) ≡ (same l m && eqb x y)
same-snoc [] [] x y e = and-true (eqb x y)
same-snoc [] (b ∷ m) x y e = absurd (omega arith)
same-snoc (a ∷ l) [] x y e = absurd (omega arith)
same-snoc (a ∷ l) (b ∷ m) x y e =
    ap (λ (t : Bool). eqb a b && t) (same-snoc l m x y (omega arith)) ∙ sym (and_assoc (eqb a b) (same l m) (eqb x y))

-- differences that are summed up: zero only where there was none
or_none : (d z : ℕ) → bit_or d z ≡ 0 → (d ≡ 0) × (z ≡ 0)
or_none d z e =
    (omega (arith, or_add_and d z, and_le_l d z, and_le_r d z), omega (arith, or_add_and d z, and_le_l d z, and_le_r d z))

xor_none : (x y : ℕ) → bit_xor x y ≡ 0 → x ≡ y
xor_none x y e = omega (arith, xor_add_and x y, and_le_l x y, and_le_r x y)

by_tests : (d x y : ℕ) (s t : Bool) → eqb d 0 ≡ s → eqb x y ≡ t → eqb (bit_or d (bit_xor x y)) 0 ≡ (s && t)
by_tests d x y true true e f =
    let p : d ≡ 0 = eqb-true d 0 e in
    let q : x ≡ y = eqb-true x y f in
    eq-eqb _ 0 (ap₂ (λ (a b : ℕ). bit_or a (bit_xor x b)) p (sym q) ∙ or_zero_l (bit_xor x x) ∙ xor_self x)
by_tests d x y true false e f = ne_eqb _ 0 (λ h. eqb-false x y f (xor_none x y (or_none d (bit_xor x y) h).1))
by_tests d x y false t e f = ne_eqb _ 0 (λ h. eqb-false d 0 e (or_none d (bit_xor x y) h).0)

pub or-xor : (d x y : ℕ) → eqb (bit_or d (bit_xor x y)) 0 ≡ (eqb d 0 && eqb x y)
or-xor d x y = by_tests d x y (eqb d 0) (eqb x y) refl refl

-- one turn of a comparison, at the bytes x and y behind the first i
pub same_turn : (a b : List ℕ) (d i x y : ℕ) → i < length a → i < length b → x ≡ get_or a i 0 → y ≡ get_or b i 0
    → eqb d 0 ≡ same (take i a) (take i b) → eqb (bit_or d (bit_xor x y)) 0 ≡ same (take (i + 1) a) (take (i + 1) b)
same_turn a b d i x y h k p q e =
    let m : length (take i a) ≡ length (take i b) = omega (arith, length-take-le i a (le_of_lt h), length-take-le i b (le_of_lt k)) in
    or-xor d x y
    ∙ ap₂ (λ (s t : Bool). s && t) e (ap₂ eqb p q)
    ∙ sym (same-snoc (take i a) (take i b) (get_or a i 0) (get_or b i 0) m)
    ∙ rw (add-one, take-suc a i 0, take-suc b i 0)
