-- Numbers as bytes (docs/RULES.md, 2.2 and 2.3): w bytes, the low byte first or the high byte first.
use Rattle.std.specs.Prelude.{ℕ, zero, suc, ◌+◌, ◌*◌, ◌/◌, ◌%◌, List, [], ◌∷◌, ◌++◌}

-- little-endian: the low byte first
abbrev pub le : ℕ → ℕ → List ℕ
le zero n = []
le (suc w) n = (n % 256) ∷ le w (n / 256)

-- the number that bytes say, the low byte first
abbrev pub unle : List ℕ → ℕ
unle [] = 0
unle (b ∷ l) = b + 256 * unle l

-- big-endian: the high byte first
abbrev pub be : ℕ → ℕ → List ℕ
be zero n = []
be (suc w) n = be w (n / 256) ++ ((n % 256) ∷ [])

-- the number that bytes say after a number n, the high byte first
abbrev pub onto : ℕ → List ℕ → ℕ
onto n [] = n
onto n (b ∷ l) = onto (n * 256 + b) l

-- the number that bytes say, the high byte first
abbrev pub unbe : List ℕ → ℕ
unbe l = onto 0 l
