-- The byte substitution and its inverse (FIPS 197 of 2001, sections 5.1.1 and 5.3.2; docs/RULES.md, 4.2).
use Rattle.std.specs.Prelude.{ℕ, zero, suc, ◌+◌, ◌*◌, ◌/◌, ◌%◌, ◌^◌, List, get_or}
use Rattle.sbox.specs.Field.{inverse}
use Rattle.octets.specs.Tab.{tab}

-- bit i of b, i taken modulo 8
unfoldable pub bit : ℕ → ℕ → ℕ
bit b i = b / 2 ^ (i % 8) % 2

-- the number whose bits 0 .. n - 1 are the sums f 0, .. , f (n - 1) modulo 2
unfoldable pub of_bits : ℕ → (ℕ → ℕ) → ℕ
of_bits zero f = 0
of_bits (suc n) f = f 0 % 2 + 2 * of_bits n (λ i. f (suc i))

-- the affine map: its bit i is b_i + b_(i+4) + b_(i+5) + b_(i+6) + b_(i+7) + c_i, where c is {63}
unfoldable pub affine_bit : ℕ → ℕ → ℕ
unfolding bit
affine_bit b i = bit b i + bit b (i + 4) + bit b (i + 5) + bit b (i + 6) + bit b (i + 7) + bit 99 i

unfoldable pub affine : ℕ → ℕ
unfolding of_bits affine_bit
affine b = of_bits 8 (affine_bit b)

-- the affine map undone: bit i is b_(i+2) + b_(i+5) + b_(i+7) + d_i, where d is {05}
unfoldable pub unaffine_bit : ℕ → ℕ → ℕ
unfolding bit
unaffine_bit b i = bit b (i + 2) + bit b (i + 5) + bit b (i + 7) + bit 5 i

unfoldable pub unaffine : ℕ → ℕ
unfolding of_bits unaffine_bit
unaffine b = of_bits 8 (unaffine_bit b)

-- the substitution of a byte: the inverse in the field, then the affine map
unfoldable pub sub_byte : ℕ → ℕ
unfolding inverse affine
sub_byte a = affine (inverse a)

-- the inverse substitution: the affine map undone, then the inverse in the field
unfoldable pub unsub_byte : ℕ → ℕ
unfolding inverse unaffine
unsub_byte a = inverse (unaffine a)

-- SubBytes and InvSubBytes: each of the sixteen bytes of a state
unfoldable pub sub_bytes : List ℕ → List ℕ
sub_bytes s = tab 16 (λ i. sub_byte (get_or s i 0))

unfoldable pub unsub_bytes : List ℕ → List ℕ
unsub_bytes s = tab 16 (λ i. unsub_byte (get_or s i 0))
