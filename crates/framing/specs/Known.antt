-- The numbers of the payload types (docs/RULES.md, 6.2).
use Rattle.std.specs.Prelude.{ℕ, Bool, List, [], ◌∷◌}
use Rattle.refusal.specs.Table.{among}

abbrev pub type_numbers : List ℕ
type_numbers = 0x00 ∷ 0x01 ∷ 0x10 ∷ 0x11 ∷ 0x12 ∷ 0x13 ∷ 0x14 ∷ 0x15 ∷ []

-- whether a number stands for a type: these eight do, and no other
unfoldable pub known : ℕ → Bool
known t = among t type_numbers
