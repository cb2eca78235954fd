-- Statuses (docs/RULES.md, 7.7; the Standard, 13.24): which of them have a name, in which message.
use Rattle.std.specs.Prelude.{ℕ, Bool, cond, ◌||◌, List, [], ◌∷◌}
use Rattle.refusal.specs.Table.{among}

-- in every message
abbrev pub common : List ℕ
common = 0x01 ∷ 0x02 ∷ 0x12 ∷ []

-- in the open response besides
abbrev pub names_open : List ℕ
names_open = 0x03 ∷ 0x04 ∷ 0x05 ∷ 0x06 ∷ 0x07 ∷ 0x09 ∷ 0x10 ∷ 0x11 ∷ []

-- in message 2 besides
abbrev pub names2 : List ℕ
names2 = 0x08 ∷ 0x09 ∷ 0x0a ∷ 0x0b ∷ 0x0c ∷ 0x0d ∷ []

-- in message 4 besides
abbrev pub names4 : List ℕ
names4 = 0x08 ∷ 0x0f ∷ []

-- 17 for a status that has a name, 18 for one that has none
abbrev pub number_if : Bool → ℕ
number_if named = cond named 17 18

-- the number of the refusal for the status b, in a message with these names besides the common ones
unfoldable pub status_number : List ℕ → ℕ → ℕ
status_number names b = number_if (among b common || among b names)
