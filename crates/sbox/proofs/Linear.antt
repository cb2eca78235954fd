-- The product by a byte is linear, and the products by the coefficients of FIPS 197, 5.1.3 and 5.3.3, as sums of doublings.
use Prim.Native.Nat.{ℕ, zero, suc, ◌*◌, ◌/◌, ◌%◌}
use mathlib.Core.Path.{◌≡◌, refl, ◌∙◌, ap, ap₂}
use native.Mathlib.Nat.{zero-mul, one-mul}
use lib.Bits.{bit_xor, xor_zero_r, xor_mod, xor_shr}
use Rattle.sbox.specs.Field.{xtime, product, mul}
use Rattle.octets.proofs.Xor.{odd_lt, xor_swap, xor_times, times_xor, double_xor}

pub xtime-xor : (x y : ℕ) → xtime (bit_xor x y) ≡ bit_xor (xtime x) (xtime y)
unfolding xtime
xtime-xor x y =
    ap₂ bit_xor
    (ap (λ (z : ℕ). z % 256) (double_xor x y) ∙ xor_mod (x * 2) (y * 2) 8)
    (ap (λ (z : ℕ). z % 2 * 27) (xor_shr x y 7) ∙ ap (λ (z : ℕ). z * 27) (xor_mod (x / 128) (y / 128) 1)
    ∙ xor_times 27 (x / 128 % 2) (odd_lt (x / 128)) (y / 128 % 2) (odd_lt (y / 128)))
    ∙ xor_swap (x * 2 % 256) (y * 2 % 256) (x / 128 % 2 * 27) (y / 128 % 2 * 27)

product-xor : (k a x y : ℕ) → product k a (bit_xor x y) ≡ bit_xor (product k a x) (product k a y)
unfolding product
product-xor zero a x y = refl
product-xor (suc k) a x y =
    ap₂ bit_xor (times_xor x y (a % 2) (odd_lt a)) (ap (product k (a / 2)) (xtime-xor x y) ∙ product-xor k (a / 2) (xtime x) (xtime y))
    ∙ xor_swap (a % 2 * x) (a % 2 * y) (product k (a / 2) (xtime x)) (product k (a / 2) (xtime y))

pub mul-xor : (a x y : ℕ) → mul a (bit_xor x y) ≡ bit_xor (mul a x) (mul a y)
unfolding mul
mul-xor a x y = product-xor 8 a x y

pub mul_1 : (x : ℕ) → mul 1 x ≡ x
unfolding mul product
mul_1 x = simp (zero-mul, one-mul, xor_zero_r)

pub mul_2 : (x : ℕ) → mul 2 x ≡ xtime x
unfolding mul product
mul_2 x = simp (zero-mul, one-mul, xor_zero_r)

pub mul_3 : (x : ℕ) → mul 3 x ≡ bit_xor x (xtime x)
unfolding mul product
mul_3 x = simp (zero-mul, one-mul, xor_zero_r)

pub mul_9 : (x : ℕ) → mul 9 x ≡ bit_xor x (xtime (xtime (xtime x)))
unfolding mul product
mul_9 x = simp (zero-mul, one-mul, xor_zero_r)

pub mul_11 : (x : ℕ) → mul 11 x ≡ bit_xor x (bit_xor (xtime x) (xtime (xtime (xtime x))))
unfolding mul product
mul_11 x = simp (zero-mul, one-mul, xor_zero_r)

pub mul_13 : (x : ℕ) → mul 13 x ≡ bit_xor x (bit_xor (xtime (xtime x)) (xtime (xtime (xtime x))))
unfolding mul product
mul_13 x = simp (zero-mul, one-mul, xor_zero_r)

pub mul_14 : (x : ℕ) → mul 14 x ≡ bit_xor (xtime x) (bit_xor (xtime (xtime x)) (xtime (xtime (xtime x))))
unfolding mul product
mul_14 x = simp (zero-mul, one-mul, xor_zero_r)
