-- The words of an answer (docs/REPLAY.md), added piece after piece at a cursor (docs/RULES.md, 9.5). A word is given by its
-- characters' codes, with the spaces that belong to it.
use Rattle.std.specs.Prelude.{ℕ, cond, List, [], ◌∷◌, ◌≡◌, eqb, length}
use Rattle.refusal.specs.Table.{number_of, value_of, carries_of}
use Rattle.refusal.specs.declared.Refusal.{Refusal}
use Rattle.text.specs.Digits.{decimal, hex}
use Rattle.text.specs.Line.{refused_word}
use Rattle.text.specs.Promise.{AddPromise}
use Rattle.text.specs.declared.write.Cursor.{Cursor}
use Rattle.cases.specs.Values.{dash}

-- the pieces are added to d at the cursor c, one after the other, each as text adds a piece
abbrev pub Said : List ℕ → Cursor → List (List ℕ) → Cursor → List ℕ → Type 0
Said d c [] r exit = (r ≡ c) × (exit ≡ d)
Said d c (s ∷ ss) r exit = (next : Cursor) × (after : List ℕ) × AddPromise d c s next after × Said after next ss r exit

-- the pieces were to be said after what stands in d before the cursor c
pub record SayPromise (d : List ℕ) (c : Cursor) (pieces : List (List ℕ)) (r : Cursor) (exit : List ℕ) : Type 0 where
  pub said : Said d c pieces r exit

-- bytes as an answer has them: hex, `-` for none
unfoldable pub shown : List ℕ → List ℕ
shown s = cond (eqb (length s) 0) dash (hex s)

-- ` `
abbrev pub space : List ℕ
space = 0x20 ∷ []

-- `refused N`, and ` V` where the refusal carries a byte
unfoldable pub refusal_pieces : Refusal → List (List ℕ)
refusal_pieces r =
    cond (carries_of r)
    (refused_word ∷ decimal (number_of r) ∷ space ∷ decimal (value_of r) ∷ [])
    (refused_word ∷ decimal (number_of r) ∷ [])
