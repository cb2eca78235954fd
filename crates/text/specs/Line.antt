-- The line that the small program writes (docs/RULES.md, 8.1). A word is given by its characters' codes, with the space after it.
use Rattle.std.specs.Prelude.{ℕ, ◌≤◌, List, [], ◌∷◌, ◌++◌, Result, Ok, Err, ◌≡◌, length}
use Rattle.octets.specs.Place.{begun}
use Rattle.refusal.specs.Table.{number_of}
use Rattle.refusal.specs.declared.Refusal.{Refusal}
use Rattle.text.specs.Digits.{decimal, hex8}
use Rattle.text.specs.declared.line.Packet.{Packet}

-- `type `
abbrev pub type_word : List ℕ
type_word = 0x74 ∷ 0x79 ∷ 0x70 ∷ 0x65 ∷ 0x20 ∷ []

-- ` id `
abbrev pub id_word : List ℕ
id_word = 0x20 ∷ 0x69 ∷ 0x64 ∷ 0x20 ∷ []

-- ` seq `
abbrev pub seq_word : List ℕ
seq_word = 0x20 ∷ 0x73 ∷ 0x65 ∷ 0x71 ∷ 0x20 ∷ []

-- ` payload `
abbrev pub payload_word : List ℕ
payload_word = 0x20 ∷ 0x70 ∷ 0x61 ∷ 0x79 ∷ 0x6c ∷ 0x6f ∷ 0x61 ∷ 0x64 ∷ 0x20 ∷ []

-- `refused `
abbrev pub refused_word : List ℕ
refused_word = 0x72 ∷ 0x65 ∷ 0x66 ∷ 0x75 ∷ 0x73 ∷ 0x65 ∷ 0x64 ∷ 0x20 ∷ []

-- the end of a line
abbrev pub newline : List ℕ
newline = 0x0a ∷ []

-- a packet's line, by its numbers: type and length in decimal, ids as eight hex digits
abbrev pub packet_line : ℕ → ℕ → ℕ → ℕ → List ℕ
packet_line kind id seq len =
    type_word ++ decimal kind ++ id_word ++ hex8 id ++ seq_word ++ hex8 seq ++ payload_word ++ decimal len ++ newline

-- a refusal's line: its number alone
abbrev pub refused_line : ℕ → List ℕ
refused_line n = refused_word ++ decimal n ++ newline

-- the line of either
abbrev pub line_of : Result Packet Refusal → List ℕ
line_of (Ok p) = packet_line p.kind p.id p.seq p.len
line_of (Err r) = refused_line (number_of r)

-- the line l stands at the start of what was d, and n is its length
pub record Begins (d l : List ℕ) (n : ℕ) (exit : List ℕ) : Type 0 where
  pub count : n ≡ length l
  pub within : n ≤ length exit
  pub buffer : exit ≡ begun l d
