-- What a step promises (docs/RULES.md, 1.3, 7.4, 7.6 and 7.8): its answer, the record, how many bytes it wrote, and every byte of the
-- lent output.
use Rattle.std.specs.Prelude.{Result, ℕ, cond, List, [], ◌∷◌, ◌≡◌, eqb, length}
use Rattle.refusal.specs.Order.{Res, refuse, accept, need, done}
use Rattle.refusal.specs.Answer.{told, told_as}
use Rattle.refusal.specs.Table.{among}
use Rattle.refusal.specs.declared.Refusal.{Refusal}
use Rattle.octets.specs.Place.{begun}
use Rattle.suite.specs.declared.SubState.{SubState}
use Rattle.keys.specs.declared.keys.Keys.{Keys}
use Rattle.messages.specs.Rakp.{declined3}
use Rattle.session.specs.Record.{closed, in_step}
use Rattle.session.specs.Steps.{Made, three_of}
use Rattle.session.specs.declared.Agreed.{Agreed}
use Rattle.session.specs.declared.Record.{Record}
use Rattle.session.specs.declared.Stepped.{Stepped}

-- the refusals that leave the record as it was; every other closes it
abbrev pub keeping : List ℕ
keeping = 15 ∷ 33 ∷ 35 ∷ 36 ∷ []

abbrev pub record_after : Record → Res Made → Record
record_after s (refuse n v) = cond (among n keeping) s closed
record_after s (accept m) = m.next

-- 31 alone writes: the message that declines
abbrev pub written : Record → Res Made → List ℕ
written s (refuse n v) = cond (eqb n 31) (declined3 (three_of s)) []
written s (accept m) = m.bytes

pub record StepPromise (R : Res Made) (s : Record) (out : List ℕ) (r : Stepped) (exit : List ℕ) : Type 0 where
  pub answer : told r.answer ≡ done R
  pub next : r.state ≡ record_after s R
  pub len : r.len ≡ length (written s R)
  pub buffer : exit ≡ begun (written s R) out

-- the session under keys and with the algorithms agreed
unfoldable pub session_with : Keys → Agreed → SubState
session_with keys agreed = record { keys = keys; confidentiality = agreed.confidentiality; integrity = agreed.integrity }

-- the session of an open record; any other is refused
pub record SessionPromise (s : Record) (r : Result SubState Refusal) : Type 0 where
  pub answer : told_as (λ z. z) r ≡ need (in_step s 4) 33 0 (accept (session_with s.keys s.agreed))
