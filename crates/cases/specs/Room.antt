-- The room that is lent to a call (docs/REPLAY.md): bytes EE, so that it shows where one was written.
use Rattle.std.specs.Prelude.{ℕ, Bool, cond, List, [], ◌∷◌, leb, eqb, length, replicate}
use Rattle.octets.specs.Place.{begun}
use Rattle.cases.specs.Fields.{part_of}
use Rattle.std.specs.List.{list_all}

-- the byte that stands everywhere in a room that is lent
abbrev pub lent_byte : ℕ
lent_byte = 0xee

-- d with its first n bytes as they are lent; d as it is where it has fewer
unfoldable pub lent_of : ℕ → List ℕ → List ℕ
lent_of n d = cond (leb n (length d)) (begun (replicate n lent_byte) d) d

-- whether each byte is as it was lent
abbrev pub untouched : List ℕ → Bool
untouched l = list_all (λ b. eqb b lent_byte) l

-- ` spilled`
abbrev pub spilled_word : List ℕ
spilled_word = 0x20 ∷ 0x73 ∷ 0x70 ∷ 0x69 ∷ 0x6c ∷ 0x6c ∷ 0x65 ∷ 0x64 ∷ []

-- what is told of the room from a up to e: nothing where it is untouched
unfoldable pub spill_pieces : List ℕ → ℕ → ℕ → List (List ℕ)
spill_pieces room a e = cond (untouched (part_of room a e)) [] (spilled_word ∷ [])
