-- The transformations of the state (FIPS 197 of 2001, sections 3.4, 5.1.2 to 5.1.4, 5.3.1, 5.3.3; docs/RULES.md, 4.1).
-- A state is its sixteen bytes column by column, as a block has them: byte i stands in row i % 4 of column i / 4.
use Rattle.std.specs.Prelude.{ℕ, ◌+◌, ◌-◌, ◌*◌, ◌/◌, ◌%◌, List, get_or}
use Rattle.std.specs.Int.Bits.{bit_xor}
use Rattle.sbox.specs.Field.{mul}
use Rattle.octets.specs.Tab.{tab}

-- the byte in row r of column c, both taken modulo 4
unfoldable pub at : List ℕ → ℕ → ℕ → ℕ
at s r c = get_or s (r % 4 + 4 * (c % 4)) 0

-- ShiftRows: row r is turned left by r places; InvShiftRows turns it right
unfoldable pub shift_rows : List ℕ → List ℕ
unfolding at
shift_rows s = tab 16 (λ i. at s i (i / 4 + i % 4))

unfoldable pub unshift_rows : List ℕ → List ℕ
unfolding at
unshift_rows s = tab 16 (λ i. at s i (i / 4 + 4 - i % 4))

-- the sum of the products of a row of the matrix and a column
unfoldable pub row : ℕ → ℕ → ℕ → ℕ → ℕ → ℕ → ℕ → ℕ → ℕ
row p q r s a b c d = bit_xor (bit_xor (mul p a) (mul q b)) (bit_xor (mul r c) (mul s d))

-- MixColumns: the matrix's first row is {02} {03} {01} {01}, and each next row is the one before turned right by one; so
-- the byte in row r is that first row times the column read from row r on
unfoldable pub mix_row : ℕ → ℕ → ℕ → ℕ → ℕ
mix_row = row 2 3 1 1

unfoldable pub mix_columns : List ℕ → List ℕ
unfolding at
mix_columns s = tab 16 (λ i. mix_row (at s i (i / 4)) (at s (i + 1) (i / 4)) (at s (i + 2) (i / 4)) (at s (i + 3) (i / 4)))

-- InvMixColumns: the same with {0e} {0b} {0d} {09}
unfoldable pub unmix_row : ℕ → ℕ → ℕ → ℕ → ℕ
unmix_row = row 14 11 13 9

unfoldable pub unmix_columns : List ℕ → List ℕ
unfolding at
unmix_columns s = tab 16 (λ i. unmix_row (at s i (i / 4)) (at s (i + 1) (i / 4)) (at s (i + 2) (i / 4)) (at s (i + 3) (i / 4)))

-- AddRoundKey: the sum with the sixteen bytes of round key n, of the round keys w one after the other
unfoldable pub add_round_key : List ℕ → ℕ → List ℕ → List ℕ
add_round_key w n s = tab 16 (λ i. bit_xor (get_or s i 0) (get_or w (16 * n + i) 0))
