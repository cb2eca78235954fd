-- Products, powers and substitutions are bytes.
use Prim.Native.Nat.{ℕ, zero, suc, ◌*◌, ◌/◌, ◌%◌, ◌^◌, ◌<◌}
use native.Mathlib.Nat.{mod-lt}
use native.Mathlib.Omega.{arith}
use lib.Dec.{lit<}
use Rattle.octets.proofs.Xor.{xor_byte}
use Rattle.sbox.specs.Field.{xtime, product, mul, squares, inverse}
use Rattle.sbox.specs.Substitution.{of_bits, affine_bit, affine, unaffine_bit, unaffine, sub_byte, unsub_byte}

pub xtime_byte : (b : ℕ) → xtime b < 256
unfolding xtime
xtime_byte b = xor_byte (b * 2 % 256) (b / 128 % 2 * 27) (omega arith) (omega arith)

-- a digit times a byte
digit_byte : (a b : ℕ) → b < 256 → a % 2 * b < 256
digit_byte a b h = go (a % 2) (omega arith)
  where
    go : (d : ℕ) → d < 2 → d * b < 256
    go zero l = omega arith
    go (suc zero) l = omega arith
    go (suc (suc d)) l = omega arith

pub product_byte : (k a b : ℕ) → b < 256 → product k a b < 256
unfolding product
product_byte zero a b h = lit< tt
product_byte (suc k) a b h =
    xor_byte (a % 2 * b) (product k (a / 2) (xtime b)) (digit_byte a b h) (product_byte k (a / 2) (xtime b) (xtime_byte b))

pub mul_byte : (a b : ℕ) → b < 256 → mul a b < 256
unfolding mul
mul_byte a b h = product_byte 8 a b h

squares_byte : (k a : ℕ) → squares k a < 256
unfolding squares
squares_byte zero a = lit< tt
squares_byte (suc k) a = mul_byte (mul a a) (squares k (mul a a)) (squares_byte k (mul a a))

pub inverse_byte : (a : ℕ) → inverse a < 256
unfolding inverse
inverse_byte a = squares_byte 7 a

bits_lt : (n : ℕ) (f : ℕ → ℕ) → of_bits n f < 2 ^ n
unfolding of_bits
bits_lt zero f = lit< tt
bits_lt (suc n) f = omega (arith, bits_lt n (λ i. f (suc i)), mod-lt (f 0) (lit< {m = 0} {n = 2} tt))

pub sub_byte_byte : (a : ℕ) → sub_byte a < 256
unfolding sub_byte affine
sub_byte_byte a = bits_lt 8 (affine_bit (inverse a))

pub unaffine_byte : (a : ℕ) → unaffine a < 256
unfolding unaffine
unaffine_byte a = bits_lt 8 (unaffine_bit a)

pub unsub_byte_byte : (a : ℕ) → unsub_byte a < 256
unfolding unsub_byte
unsub_byte_byte a = inverse_byte (unaffine a)
