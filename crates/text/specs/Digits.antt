-- Numbers and bytes as text (docs/RULES.md, 9.1 to 9.3): the digits are `0` to `9` and, for ten to fifteen, `a` to `f`.
use Rattle.std.specs.Prelude.{ℕ, zero, suc, ◌+◌, ◌-◌, ◌*◌, ◌/◌, ◌%◌, Bool, ◌&&◌, cond, List, [], ◌∷◌, ◌++◌, leb, ltb}
use Rattle.std.specs.List.{list_all}

-- the character of a digit below 16
unfoldable pub digit : ℕ → ℕ
digit d = cond (ltb d 10) (48 + d) (87 + d)

-- the digit that a character is; 16, which is none, for every other character
unfoldable pub worth : ℕ → ℕ
worth c = cond (leb 48 c && leb c 57) (c - 48) (cond (leb 97 c && leb c 102) (c - 87) 16)

-- the last w digits of n in the base b, the most significant first
abbrev pub spelled : ℕ → ℕ → ℕ → List ℕ
spelled b zero n = []
spelled b (suc w) n = spelled b w (n / b) ++ (digit (n % b) ∷ [])

-- n in decimal, where f divisions by ten are enough
abbrev pub shortest : ℕ → ℕ → List ℕ
shortest zero n = digit n ∷ []
shortest (suc f) n = cond (ltb n 10) (digit n ∷ []) (shortest f (n / 10) ++ (digit (n % 10) ∷ []))

-- n in decimal: below ten its digit, else what n / 10 has and then the digit of n % 10. So no zero stands in front, but
-- that 0 is `0`. (n divisions are more than enough.)
unfoldable pub decimal : ℕ → List ℕ
decimal n = shortest n n

-- bytes in hex, two digits each
abbrev pub hex : List ℕ → List ℕ
hex [] = []
hex (b ∷ l) = digit (b / 16) ∷ digit (b % 16) ∷ hex l

-- a number as eight hex digits, the value and not the wire's order
unfoldable pub hex8 : ℕ → List ℕ
hex8 n = spelled 16 8 n

-- whether each character is a digit of the base b, which is at most 16
abbrev pub digits : ℕ → List ℕ → Bool
digits b s = list_all (λ c. ltb (worth c) b) s

-- the number that digits in the base b say after a number v
abbrev pub value : ℕ → ℕ → List ℕ → ℕ
value b v [] = v
value b v (c ∷ s) = value b (v * b + worth c) s

-- the bytes that pairs of hex digits say
abbrev pub pairs : List ℕ → List ℕ
pairs [] = []
pairs (h ∷ []) = []
pairs (h ∷ l ∷ s) = (16 * worth h + worth l) ∷ pairs s
