-- Places in a list (docs/RULES.md, 2.4, 2.4.1 and 2.5): a part of it, and what it holds after bytes were put there.
use Rattle.std.specs.Prelude.{ℕ, ◌+◌, ◌-◌, Bool, cond, List, ◌++◌, length, take, drop, replicate, leb}

-- the n elements from a on, or as many of them as there are
abbrev pub part : List ℕ → ℕ → ℕ → List ℕ
part l a n = take n (drop a l)

-- l and zeros behind it, n elements in all; where l has more, l
unfoldable pub filled : ℕ → List ℕ → List ℕ
filled n l = l ++ replicate (n - length l) 0

-- d with s in place of what stands from a on
unfoldable pub pasted : List ℕ → ℕ → List ℕ → List ℕ
pasted d a s = take a d ++ (s ++ drop (a + length s) d)

-- d beginning with s, the rest as found
unfoldable pub begun : List ℕ → List ℕ → List ℕ
begun s d = s ++ drop (length s) d

-- whether n elements from a on lie in d
abbrev pub fits : List ℕ → ℕ → ℕ → Bool
fits d a n = leb (a + n) (length d)

-- d after s was put at a: pasted where all of s fits, else as found
unfoldable pub placed : List ℕ → ℕ → List ℕ → List ℕ
placed d a s = cond (fits d a (length s)) (pasted d a s) d
