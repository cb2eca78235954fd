-- What the reader's checks promise (docs/RULES.md, 6.6, 6.8 and 6.9): each answer by its numbers.
use Rattle.std.specs.Prelude.{Result, ℕ, ◌≡◌}
use Rattle.refusal.specs.Order.{Res}
use Rattle.refusal.specs.Answer.{told_as}
use Rattle.refusal.specs.declared.Refusal.{Refusal}
use Rattle.framing.specs.Packet.{Message}
use Rattle.framing.specs.Told.{Shown, shown}
use Rattle.suite.specs.Types.{type_number}
use Rattle.suite.specs.declared.PayloadType.{PayloadType}
use Rattle.reader.specs.declared.Accepted.{Accepted}
use Rattle.reader.specs.declared.Read.{Read}

-- the head: the type's number, or a refusal
abbrev pub head_told : Result PayloadType Refusal → Res ℕ
head_told = told_as type_number

-- what was accepted, by its numbers
abbrev pub accepted_told : Accepted → Shown
accepted_told a = record { ty = type_number a.ty; id = a.session_id; seq = a.session_sequence_number; len = a.len }

-- the reader's answer
abbrev pub read_told : Result Accepted Refusal → Res Shown
read_told = told_as accepted_told

-- what was found, and the blocks told with it
pub record Tells (R : Res Message) (blocks : ℕ) (r : Read) : Type 0 where
  pub answer : read_told r.answer ≡ shown R
  pub count : r.blocks ≡ blocks
