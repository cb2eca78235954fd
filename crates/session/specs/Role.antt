-- The role byte: what message 1 asks for, and what every N holds (the Standard, 13.20; docs/RULES.md, 5.2 and 7.15).
use Rattle.std.specs.Prelude.{ℕ, ◌+◌, Option, unwrap_or, List}
use Rattle.keys.specs.Codes.{role_name}
use Rattle.session.specs.Constants.{administrator, name_only}
use Rattle.session.specs.declared.Lookup.{Lookup}
use Rattle.session.specs.declared.Lookup.TheVariants.{NameAndLevel, NameOnly}
use Rattle.session.specs.declared.Asked.{Asked}

-- the level that Begin was asked for, the administrator's if none was
abbrev pub level_of : Option ℕ → ℕ
level_of level = unwrap_or level administrator

-- how the system shall look the user up
abbrev pub lookup_bit : Lookup → ℕ
lookup_bit NameAndLevel = 0
lookup_bit NameOnly = name_only

unfoldable pub role_of : Option ℕ → Lookup → ℕ
role_of level lookup = level_of level + lookup_bit lookup

-- the role and the N of an exchange, as Begin was given them
abbrev pub role_asked : Asked → ℕ
role_asked asked = role_of asked.level asked.lookup

abbrev pub who_asked : Asked → List ℕ → List ℕ
who_asked asked name = role_name (role_asked asked) name
