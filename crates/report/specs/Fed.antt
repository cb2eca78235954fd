-- What is told of the one packet that an input holds (docs/RULES.md, 8.1 and 8.2).
use Rattle.std.specs.Prelude.{ℕ, List, Option, ◌+◌, ◌<◌, ◌≤◌, length}
use Rattle.std.specs.Io.KnownBytes.{Consumes, IsAtEnd}
use Rattle.text.specs.Promise.{AddPromise}
use Rattle.text.specs.declared.write.Cursor.{Cursor}
use Rattle.report.specs.Told.{longest, told}

-- the line of the packet that the input gave was added: all that it held, or one byte more than the longest packet, so that a longer input
-- shows as one
pub record Fed (before after : Option (List ℕ)) (d : List ℕ) (c : Cursor) (r : Cursor) (exit : List ℕ) : Type 0 where
  pub packet : List ℕ
  pub gave : Consumes before after packet
  pub within : length packet ≤ longest + 1
  pub whole : length packet < longest + 1 → IsAtEnd after
  pub line : AddPromise d c (told packet) r exit
