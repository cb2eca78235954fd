-- The field GF(2^8) (FIPS 197 of 2001, section 4; docs/RULES.md, 4.1). A byte is the polynomial that its bits are the
-- coefficients of; the sum of two is `bit_xor`, and products are taken modulo x^8 + x^4 + x^3 + x + 1.
use Rattle.std.specs.Prelude.{ℕ, zero, suc, ◌*◌, ◌/◌, ◌%◌}
use Rattle.std.specs.Int.Bits.{bit_xor}

-- the product by x (4.2): shifted by one place, and where bit 7 was set, reduced by {1b}
unfoldable pub xtime : ℕ → ℕ
xtime b = bit_xor (b * 2 % 256) (b / 128 % 2 * 27)

-- the sum of b times each power of x that is in the low k bits of a
unfoldable pub product : ℕ → ℕ → ℕ → ℕ
unfolding xtime
product zero a b = 0
product (suc k) a b = bit_xor (a % 2 * b) (product k (a / 2) (xtime b))

-- the product of two bytes
unfoldable pub mul : ℕ → ℕ → ℕ
unfolding product
mul a b = product 8 a b

-- the product of a^2, a^4, .. , a^(2^k)
unfoldable pub squares : ℕ → ℕ → ℕ
unfolding mul
squares zero a = 1
squares (suc k) a = mul (mul a a) (squares k (mul a a))

-- the inverse (4.4): a^254, which is {00} for {00}
unfoldable pub inverse : ℕ → ℕ
unfolding squares
inverse a = squares 7 a
