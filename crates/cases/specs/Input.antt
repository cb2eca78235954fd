-- Lines out of an input that comes in pieces (docs/REPLAY.md): a line ends with a newline, and one that is longer than is
-- taken is bad, as an empty one is.
use Rattle.std.specs.Prelude.{ℕ, suc, ◌+◌, Bool, cond, List, [], ◌≡◌, ltb, length}
use Rattle.text.specs.Fields.{upto}
use Rattle.text.specs.Promise.{AddPromise}
use Rattle.text.specs.declared.write.Cursor.{Cursor}
use Rattle.cases.specs.Fields.{part_of}
use Rattle.cases.specs.declared.input.Input.{Input}

-- what is left of the piece
abbrev pub left : Input → List ℕ → List ℕ
left s piece = part_of piece s.from s.to

-- what that has of the line
abbrev pub found : Input → List ℕ → List ℕ
found s piece = upto 0x0a (left s piece)

-- whether the line ends there
abbrev pub ends : Input → List ℕ → Bool
ends s piece = ltb (length (found s piece)) (length (left s piece))

-- what the piece has of the line was to be added to what was gathered of it
pub record GatherPromise (s : Input) (piece line : List ℕ) (r : Input) (exit : List ℕ) : Type 0 where
  pub added : AddPromise line s.line (found s piece) r.line exit
  pub from : r.from ≡ cond (ends s piece) (s.from + suc (length (found s piece))) s.to
  pub to : r.to ≡ s.to
  pub whole : r.whole ≡ ends s piece

-- the line that was gathered, nothing where it was longer than is taken
unfoldable pub line_of : List ℕ → Cursor → List ℕ
line_of l c = cond c.full [] (part_of l 0 c.at)
