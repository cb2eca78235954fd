-- Laws of marks, from std's laws of the bits of a number: what bits are made of, which marks a sum bit by bit, a shift and made bits have, and
-- how many.
use Prim.Native.Nat.{ℕ, zero, suc, ◌+◌, ◌-◌, ◌*◌, ◌/◌, ◌%◌, ◌^◌, ◌<◌, ◌≤◌, max}
use native.Mathlib.Nat.{mod-lt, mod-one, mod-eq_of_lt, add_comm, div-eq_of_lt, pow-suc}
use native.Mathlib.Omega.{arith}
use mathlib.Core.Bool.{Bool, true, false, false≢true, true≢false, cond, ◌||◌, ◌&&◌}
use mathlib.Core.Logic.{⊎_elim}
use mathlib.Core.Path.{◌≡◌, refl, sym, ◌∙◌, ap, ap₂, subst}
use lib.Bits.{bit_or}
use lib.Count.{ones, ones_cat}
use lib.Dec.{eqb, leb, lit<, eqb-suc-zero}
use lib.Pow.{pow-lt, pow_pos, mod-pow-add, split}
use borrow.Author.Tests.{le-leb, lt-leb}
use Rattle.std.specs.Int.{bit_at}
use Rattle.std.proofs.lemmas.Nat.Bits.{bit_at-lt, bit_at-zero, bit_at_or, bit_at_cat_low, bit_at_cat_high, same_from_bits_below}
use Rattle.octets.proofs.Order.{lt_or_le}
use Rattle.octets.proofs.Xor.{digits}
use Rattle.arrivals.specs.Marks.{mark_of, bits_of, count_below}

-- two digits with the same test are one
digit_same : (x : ℕ) → x < 2 → (y : ℕ) → y < 2 → eqb x 1 ≡ eqb y 1 → x ≡ y
digit_same =
    digits (λ (x : ℕ). (y : ℕ) → y < 2 → eqb x 1 ≡ eqb y 1 → x ≡ y)
    (digits (λ (y : ℕ). eqb 0 1 ≡ eqb y 1 → 0 ≡ y) (λ e. refl) (λ e. absurd (false≢true e)))
    (digits (λ (y : ℕ). eqb 1 1 ≡ eqb y 1 → 1 ≡ y) (λ e. absurd (true≢false e)) (λ e. refl))

-- only the marks below the width count
pub bits_agree : (f g : ℕ → Bool) (w : ℕ) → ((k : ℕ) → k < w → f k ≡ g k) → bits_of f w ≡ bits_of g w
unfolding bits_of
bits_agree f g zero e = refl
bits_agree f g (suc w) e = ap₂ ◌+◌ (bits_agree f g w (λ k h. e k (omega arith))) (ap (λ (b : Bool). cond b (2 ^ w) 0) (e w (omega arith)))

-- the marks of bits are those that they were made of
chosen_lt : (b : Bool) (x m : ℕ) → x < m → x + cond b m 0 < m * 2
chosen_lt true x m h = omega arith
chosen_lt false x m h = omega arith

bits_lt : (f : ℕ → Bool) (w : ℕ) → bits_of f w < 2 ^ w
unfolding bits_of
bits_lt f zero = lit< tt
bits_lt f (suc w) = subst (λ (m : ℕ). bits_of f w + cond (f w) (2 ^ w) 0 < m) (sym (pow-suc 2 w)) (chosen_lt (f w) (bits_of f w) (2 ^ w) (bits_lt f w))

chosen : (b : Bool) (x m : ℕ) → x + cond b m 0 ≡ cond b 1 0 * m + x
chosen true x m = omega arith
chosen false x m = omega arith

chosen_odd : (b : Bool) → eqb (bit_at (cond b 1 0) 0) 1 ≡ b
chosen_odd true = refl
chosen_odd false = refl

pub mark_bits : (f : ℕ → Bool) (w k : ℕ) → k < w → mark_of (bits_of f w) k ≡ f k
unfolding mark_of bits_of
mark_bits f zero k h = absurd (omega arith)
mark_bits f (suc w) k h =
    ap (λ (x : ℕ). eqb (bit_at x k) 1) (chosen (f w) (bits_of f w) (2 ^ w)) ∙ ⊎_elim (λ l. below l ∙ mark_bits f w k l) here (lt_or_le k w)
  where
    x : ℕ
    x = cond (f w) 1 0 * 2 ^ w + bits_of f w

    below : k < w → eqb (bit_at x k) 1 ≡ mark_of (bits_of f w) k
    below l = ap (λ (y : ℕ). eqb y 1) (bit_at_cat_low (cond (f w) 1 0) w (bits_of f w) k l)

    here : w ≤ k → eqb (bit_at x k) 1 ≡ f k
    here l =
        let e : k ≡ w = omega arith in
        let z : k - w ≡ 0 = omega arith in
        ap (λ (y : ℕ). eqb y 1) (bit_at_cat_high (cond (f w) 1 0) w (bits_of f w) k (bits_lt f w) l ∙ ap (bit_at (cond (f w) 1 0)) z)
        ∙ chosen_odd (f w) ∙ ap f (sym e)

-- so a number of w bits is known by its marks
pub bits_known : (s w : ℕ) (f : ℕ → Bool) → s < 2 ^ w → ((k : ℕ) → k < w → mark_of s k ≡ f k) → s ≡ bits_of f w
unfolding mark_of
bits_known s w f h e =
    same_from_bits_below w s (bits_of f w) h (bits_lt f w)
    (λ k l. digit_same _ (bit_at-lt s k) _ (bit_at-lt (bits_of f w) k) (e k l ∙ sym (mark_bits f w k l)))

-- the marks below the width of a number's low bits are its own
mark_low : (s w k : ℕ) → k < w → mark_of (s % 2 ^ w) k ≡ mark_of s k
unfolding mark_of
mark_low s w k h = ap (λ (x : ℕ). eqb x 1) (sym (bit_at_cat_low (s / 2 ^ w) w (s % 2 ^ w) k h) ∙ ap (λ (x : ℕ). bit_at x k) (split s w))

-- the bits of a number's own marks are its low bits
pub bits_own : (s w : ℕ) → bits_of (mark_of s) w ≡ s % 2 ^ w
bits_own s w = sym (bits_known (s % 2 ^ w) w (mark_of s) (mod-lt s (pow_pos w)) (mark_low s w))

-- the marks of a sum bit by bit
max_odd : (x : ℕ) → x < 2 → (y : ℕ) → y < 2 → eqb (max x y) 1 ≡ (eqb x 1 || eqb y 1)
max_odd =
    digits (λ (x : ℕ). (y : ℕ) → y < 2 → eqb (max x y) 1 ≡ (eqb x 1 || eqb y 1))
    (digits (λ (y : ℕ). eqb (max 0 y) 1 ≡ eqb y 1) refl refl)
    (digits (λ (y : ℕ). eqb (max 1 y) 1 ≡ true) refl refl)

pub mark_or : (a b k : ℕ) → mark_of (bit_or a b) k ≡ (mark_of a k || mark_of b k)
unfolding mark_of
mark_or a b k = ap (λ (x : ℕ). eqb x 1) (bit_at_or a b k) ∙ max_odd (bit_at a k) (bit_at-lt a k) (bit_at b k) (bit_at-lt b k)

-- the marks of a shift in w bits: above the shift each is the one that far below it, below the shift there is none
pub mark_shifted : (s d w k : ℕ) → k < w → mark_of (s * 2 ^ d % 2 ^ w) k ≡ (leb d k && mark_of s (k - d))
unfolding mark_of
mark_shifted s d w k h =
    ap (λ (x : ℕ). eqb x 1)
    (sym (bit_at_cat_low (s * 2 ^ d / 2 ^ w) w (s * 2 ^ d % 2 ^ w) k h) ∙ ap (λ (x : ℕ). bit_at x k) (split (s * 2 ^ d) w ∙ omega arith))
    ∙ ⊎_elim below above (lt_or_le k d)
  where
    shifted : Bool → Bool
    shifted b = b && mark_of s (k - d)

    below : k < d → eqb (bit_at (s * 2 ^ d + 0) k) 1 ≡ shifted (leb d k)
    below l = ap (λ (x : ℕ). eqb x 1) (bit_at_cat_low s d 0 k l ∙ bit_at-zero k) ∙ sym (ap shifted (lt-leb d k l))

    above : d ≤ k → eqb (bit_at (s * 2 ^ d + 0) k) 1 ≡ shifted (leb d k)
    above l = ap (λ (x : ℕ). eqb x 1) (bit_at_cat_high s d 0 k (pow_pos d) l) ∙ sym (ap shifted (le-leb d k l))

-- the one mark of 1 is the lowest
pub mark_one : (k : ℕ) → mark_of 1 k ≡ eqb k 0
unfolding mark_of
mark_one zero = refl
mark_one (suc k) = ap (λ (x : ℕ). eqb (x % 2) 1) (div-eq_of_lt (pow-lt {i = 0} {j = suc k} (omega arith))) ∙ sym (eqb-suc-zero k)

-- the count of the ones is the count of the marks
digit_ones : (d : ℕ) → d < 2 → ones d ≡ cond (eqb d 1) 1 0
unfolding ones
digit_ones = digits (λ (d : ℕ). ones d ≡ cond (eqb d 1) 1 0) refl refl

ones_low : (s w : ℕ) → ones (s % 2 ^ w) ≡ count_below (mark_of s) w
unfolding count_below mark_of
ones_low s zero = ap ones (mod-one s) ∙ digit_ones 0 (omega arith)
ones_low s (suc w) =
    ap (λ (x : ℕ). ones (s % 2 ^ x)) (omega arith) ∙ ap ones (mod-pow-add s 1 w) ∙ ones_cat w (bit_at s w) (s % 2 ^ w) (mod-lt s (pow_pos w))
    ∙ add_comm (ones (bit_at s w)) (ones (s % 2 ^ w)) ∙ ap₂ ◌+◌ (ones_low s w) (digit_ones (bit_at s w) (bit_at-lt s w))

pub ones_marks : (s w : ℕ) → s < 2 ^ w → ones s ≡ count_below (mark_of s) w
ones_marks s w h = ap ones (sym (mod-eq_of_lt h)) ∙ ones_low s w
