-- Words of 32 bits: FIPS 180-4, sections 3.2 (operations), 3.1 (a word as four bytes), 4.1.1 (functions).
use Rattle.std.specs.Prelude.{ℕ, ◌+◌, ◌-◌, ◌*◌, ◌/◌, ◌%◌, ◌^◌, List, bit_and, bit_or, bit_xor, slice_index}

-- 3.2, item 5: ROTL^n(x) = (x << n) or (x >> 32 - n)
abbrev pub rotl : ℕ → ℕ → ℕ
rotl n x = bit_or ((x * 2 ^ n) % 2 ^ 32) (x / 2 ^ (32 - n))

-- 3.1, item 3: four bytes from i on as a word, the high byte first
abbrev pub word : List ℕ → ℕ → ℕ
word m i = slice_index m i * 16777216 + slice_index m (i + 1) * 65536 + slice_index m (i + 2) * 256 + slice_index m (i + 3)

-- 4.1.1: Ch, Parity, Maj
abbrev pub ch : ℕ → ℕ → ℕ → ℕ
ch x y z = bit_xor (bit_and x y) (bit_and ((2 ^ 32 - 1) - x) z)

abbrev pub parity : ℕ → ℕ → ℕ → ℕ
parity x y z = bit_xor (bit_xor x y) z

abbrev pub maj : ℕ → ℕ → ℕ → ℕ
maj x y z = bit_xor (bit_xor (bit_and x y) (bit_and x z)) (bit_and y z)
