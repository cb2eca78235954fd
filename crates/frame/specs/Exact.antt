-- What reading is to a caller (docs/RULES.md, 6.13 and 6.14): a packet is refused exactly when it carries no message, what is accepted is the
-- only message that it carries, and what was written is read back.
use Rattle.std.specs.Prelude.{Result, Ok, Err, ℕ, List, ◌↔◌, ◌≡◌, length, take}
use Rattle.refusal.specs.declared.Refusal.{Refusal}
use Rattle.framing.specs.Packet.{Message}
use Rattle.framing.specs.Frames.{Only, NoMessage}
use Rattle.suite.specs.Types.{type_number}
use Rattle.suite.specs.declared.PayloadType.{PayloadType}
use Rattle.suite.specs.declared.SubState.{SubState}
use Rattle.reader.specs.declared.Accepted.{Accepted}

-- a read call as it is seen from outside: its session, the packet or datagram that it was lent, its answer, what it left of that
pub record ReadSeen : Type 0 where
  pub session : SubState
  pub lent : List ℕ
  pub answer : Result Accepted Refusal
  pub left : List ℕ

-- a write call: its session, what it was given to write, its answer, its output as it left it
pub record WriteSeen : Type 0 where
  pub session : SubState
  pub ty : PayloadType
  pub id : ℕ
  pub seq : ℕ
  pub payload : List ℕ
  pub answer : Result ℕ Refusal
  pub left : List ℕ

-- the message that a type, ids and a payload are
abbrev pub message_told : PayloadType → ℕ → ℕ → List ℕ → Message
message_told t i q payload = record { ty = type_number t; id = i; seq = q; payload = payload }

-- `Of` says which messages the bytes carry, `Hands n x` that the payload call, told n bytes, hands x out of the buffer as reading left it
pub record Exact (Of : Message → Type 0) (answer : Result Accepted Refusal) (Hands : ℕ → List ℕ → Type 0) : Type 0 where
  pub refused : ((r : Refusal) × (answer ≡ Err r)) ↔ NoMessage Of
  pub accepted : (t : PayloadType) (i q n : ℕ) → answer ≡ Ok (record { ty = t; session_id = i; session_sequence_number = q; len = n })
      → (payload : List ℕ) × (length payload ≡ n) × Only Of (message_told t i q payload) × ((x : List ℕ) → Hands n x → x ≡ payload)

-- a read call of the writer's session is lent what the writer wrote, as many bytes as it told
pub record Follows (w : WriteSeen) (r : ReadSeen) : Type 0 where
  pub length : ℕ
  pub told : w.answer ≡ Ok length
  pub session : r.session ≡ w.session
  pub lent : r.lent ≡ take length w.left

-- what was written is answered with its type, its ids and its length, and its bytes are handed out
pub record ReadBack (w : WriteSeen) (answer : Result Accepted Refusal) (Hands : ℕ → List ℕ → Type 0) : Type 0 where
  pub answered : answer ≡ Ok (record { ty = w.ty; session_id = w.id; session_sequence_number = w.seq; len = length w.payload })
  pub handed : (x : List ℕ) → Hands (length w.payload) x → x ≡ w.payload
