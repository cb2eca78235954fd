-- What the writer's calls promise (docs/RULES.md, 6.5 and 6.10): the answer by its numbers, and what the output holds.
use Rattle.std.specs.Prelude.{Result, ℕ, List, ◌≡◌}
use Rattle.refusal.specs.Order.{Res}
use Rattle.refusal.specs.Answer.{told_as}
use Rattle.refusal.specs.declared.Refusal.{Refusal}
use Rattle.framing.specs.Packet.{Message}
use Rattle.framing.specs.Told.{counted}
use Rattle.framing.specs.Write.{wrote_by}
use Rattle.suite.specs.Types.{type_number}
use Rattle.writer.specs.declared.Message as M

-- what a packet says, by its numbers and bytes
abbrev pub message_of : M.Message → Message
message_of m = record { ty = type_number m.ty; id = m.id; seq = m.seq; payload = m.payload.now }

-- the writer's answer: the length of what was written, or a refusal
abbrev pub written_told : Result ℕ Refusal → Res ℕ
written_told = told_as (λ n. n)

-- that answer, and what the output holds
pub record WritePromise (R : Res (List ℕ)) (d : List ℕ) (r : Result ℕ Refusal) (exit : List ℕ) : Type 0 where
  pub answer : written_told r ≡ counted R
  pub buffer : exit ≡ wrote_by R d
