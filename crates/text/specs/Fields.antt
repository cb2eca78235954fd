-- A line's fields (docs/RULES.md, 9.4): what stands between one separator and the next.
use Rattle.std.specs.Prelude.{ℕ, cond, List, [], ◌∷◌, eqb}

-- what stands before the first separator c, or all where there is none
abbrev pub upto : ℕ → List ℕ → List ℕ
upto c [] = []
upto c (x ∷ l) = cond (eqb x c) [] (x ∷ upto c l)

-- a character more in front of the first field
abbrev pub on_first : ℕ → List (List ℕ) → List (List ℕ)
on_first x [] = (x ∷ []) ∷ []
on_first x (f ∷ fs) = (x ∷ f) ∷ fs

-- the fields of a line: each separator c ends one and begins the next, so there is one more than there are separators
abbrev pub cut : ℕ → List ℕ → List (List ℕ)
cut c [] = [] ∷ []
cut c (x ∷ l) = cond (eqb x c) ([] ∷ cut c l) (on_first x (cut c l))
