-- Bytes that come in pieces, one after another, to a running value of any type S (RFC 2104 and FIPS 180-4 speak of the joined bytes).
use Rattle.std.specs.Prelude.{ℕ, List, [], ◌∷◌, ◌++◌}

-- the pieces' bytes, joined
unfoldable pub joined : List (List ℕ) → List ℕ
joined [] = []
joined (p ∷ ps) = p ++ joined ps

-- what is left after the pieces went in
unfoldable pub feeds : {S : Type 0} → (S → List ℕ → S) → S → List (List ℕ) → S
feeds feed s [] = s
feeds feed s (p ∷ ps) = feeds feed (feed s p) ps
