-- The numbers that the steps name (docs/RULES.md, 35 and 36 in the table of section 1; 5.6; 7.1 to 7.5 and 7.15).
use Rattle.std.specs.Prelude.{ℕ, ◌+◌, Bool, ◌||◌, eqb}

-- the tags of the three messages that a console sends; what answers one carries its tag
abbrev pub open_tag : ℕ
open_tag = 0x00

abbrev pub tag1 : ℕ
tag1 = 0x0d

abbrev pub tag3 : ℕ
tag3 = 0x0a

-- the level of the role where none was asked for, the administrator's
abbrev pub administrator : ℕ
administrator = 0x04

-- the role's bit 4, which asks for a lookup by name only
abbrev pub name_only : ℕ
name_only = 0x10

-- a Kg has twenty bytes, or none was lent
abbrev pub kg_size : ℕ
kg_size = 20

abbrev pub legal_kg : ℕ → Bool
legal_kg n = eqb n 0 || eqb n kg_size

-- the longest password that is taken
abbrev pub longest_password : ℕ
longest_password = 255

-- the codes of messages 2 and 3, and message 4's value
abbrev pub code_size : ℕ
code_size = 20

abbrev pub value_size : ℕ
value_size = 12

-- what a console sends: the request, message 1 with a name of n bytes, and message 3
abbrev pub request_size : ℕ
request_size = 32

abbrev pub one_size : ℕ → ℕ
one_size n = 28 + n

abbrev pub three_size : ℕ
three_size = 8 + code_size
