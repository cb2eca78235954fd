-- KeyExpansion for a key of sixteen bytes (FIPS 197 of 2001, section 5.2; docs/RULES.md, 4.1).
use Rattle.std.specs.Prelude.{ℕ, zero, suc, ◌+◌, ◌*◌, ◌/◌, ◌%◌, ◌-◌, cond, List, [], ◌∷◌, ◌++◌, eqb, get_or}
use Rattle.std.specs.Int.Bits.{bit_xor}
use Rattle.sbox.specs.Field.{xtime}
use Rattle.sbox.specs.Substitution.{sub_byte}

-- the powers of x in the field
unfoldable pub powers : ℕ → ℕ
powers zero = 1
powers (suc n) = xtime (powers n)

-- the constant word of round j: x^(j - 1) and three zeros
unfoldable pub rcon : ℕ → List ℕ
unfolding powers
rcon j = powers (j - 1) ∷ 0 ∷ 0 ∷ 0 ∷ []

unfoldable pub rot_word : List ℕ → List ℕ
rot_word a = get_or a 1 0 ∷ get_or a 2 0 ∷ get_or a 3 0 ∷ get_or a 0 0 ∷ []

unfoldable pub sub_word : List ℕ → List ℕ
sub_word a = sub_byte (get_or a 0 0) ∷ sub_byte (get_or a 1 0) ∷ sub_byte (get_or a 2 0) ∷ sub_byte (get_or a 3 0) ∷ []

unfoldable pub xor_word : List ℕ → List ℕ → List ℕ
xor_word a b =
    bit_xor (get_or a 0 0) (get_or b 0 0) ∷ bit_xor (get_or a 1 0) (get_or b 1 0)
    ∷ bit_xor (get_or a 2 0) (get_or b 2 0) ∷ bit_xor (get_or a 3 0) (get_or b 3 0) ∷ []

-- what word i - 4 is added to, from word i - 1: every fourth time it is turned, substituted and given the round's constant
unfoldable pub temp : ℕ → List ℕ → List ℕ
unfolding rcon rot_word sub_word xor_word
temp i a = cond (eqb (i % 4) 0) (xor_word (sub_word (rot_word a)) (rcon (i / 4))) a

-- word j of sixteen bytes
unfoldable pub word : List ℕ → ℕ → List ℕ
word s j = get_or s (4 * j) 0 ∷ get_or s (4 * j + 1) 0 ∷ get_or s (4 * j + 2) 0 ∷ get_or s (4 * j + 3) 0 ∷ []

-- the words w[i], w[i + 1], w[i + 2], w[i + 3]: at first the key's own four; then w[i + 4] = w[i] + temp comes in
unfoldable pub words : List ℕ → ℕ → List ℕ
unfolding temp xor_word word
words k zero = k
words k (suc i) =
    word (words k i) 1 ++ word (words k i) 2 ++ word (words k i) 3
    ++ xor_word (word (words k i) 0) (temp (i + 4) (word (words k i) 3))

-- the first n round keys one after the other: round key j is the words w[4 j] .. w[4 j + 3]
unfoldable pub schedule : List ℕ → ℕ → List ℕ
schedule k zero = []
schedule k (suc n) = schedule k n ++ words k (4 * n)

unfoldable pub key_expansion : List ℕ → List ℕ
key_expansion k = schedule k 11
