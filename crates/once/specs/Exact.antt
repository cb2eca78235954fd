-- What reading once is to a caller (docs/RULES.md, 10.12 to 10.14): the reader, but for the number; and what its refusals say of the message.
use Rattle.std.specs.Prelude.{ℕ, List, ◌∷◌, ◌⊎◌, ◌↔◌, ◌≡◌, length, Result, Ok, Err}
use Rattle.refusal.specs.Order.{refuse, accept}
use Rattle.refusal.specs.Table.{number_of, value_of}
use Rattle.refusal.specs.declared.Refusal.{Refusal}
use Rattle.framing.specs.Packet.{Message}
use Rattle.framing.specs.Frames.{Only, NoMessage}
use Rattle.suite.specs.declared.SubState.{SubState}
use Rattle.reader.specs.declared.Accepted.{Accepted}
use Rattle.reader.specs.declared.Read.{Read}
use Rattle.frame.specs.Exact.{message_told}
use Rattle.arrivals.specs.Take.{take_of}
use Rattle.arrivals.specs.declared.Arrivals.{Arrivals}
use Rattle.once.specs.declared.ReadOnce.{ReadOnce}

-- a call of the guarded reader as it is seen from outside: its session, the record and the packet or datagram that it was given, its answer, what it
-- left of the packet
pub record OnceSeen : Type 0 where
  pub session : SubState
  pub arrivals : Arrivals
  pub lent : List ℕ
  pub answer : ReadOnce
  pub left : List ℕ

-- a packet's number with those that follow it, where it was accepted
abbrev pub with_number : Result Accepted Refusal → List ℕ → List ℕ
with_number (Ok m) ns = m.session_sequence_number ∷ ns
with_number (Err w) ns = ns

-- it does what the reader does, which answered `read` and left `left`, but where the number is refused
pub record Guards (o : OnceSeen) (read : Read) (left : List ℕ) : Type 0 where
  pub refused : (w : Refusal) → read.answer ≡ Err w → (o.answer.read ≡ read) × (o.left ≡ left) × (o.answer.arrivals ≡ o.arrivals)
  pub taken : (m : Accepted) (b : Arrivals) → read.answer ≡ Ok m → take_of o.arrivals m.session_sequence_number ≡ accept b
      → (o.answer.read ≡ read) × (o.left ≡ left) × (o.answer.arrivals ≡ b)
  pub not_taken : (m : Accepted) (w : Refusal) → read.answer ≡ Ok m → take_of o.arrivals m.session_sequence_number ≡ refuse (number_of w) (value_of w)
      → (o.answer.read ≡ record { answer = Err w; blocks = read.blocks }) × (o.left ≡ o.lent) × (o.answer.arrivals ≡ o.arrivals)
  -- so where it accepts it is the reader, and its record has taken the number
  pub accepted : (m : Accepted) → o.answer.read.answer ≡ Ok m
      → (o.answer.read ≡ read) × (o.left ≡ left) × (take_of o.arrivals m.session_sequence_number ≡ accept o.answer.arrivals)

-- any refusal leaves the packet and the record as found
abbrev pub AsFound : OnceSeen → Type 0
AsFound o = (w : Refusal) → o.answer.read.answer ≡ Err w → (o.left ≡ o.lent) × (o.answer.arrivals ≡ o.arrivals)

-- the two refusals that stand outside the frame
abbrev pub ByNumber : Refusal → Type 0
ByNumber w = (number_of w ≡ 38) ⊎ (number_of w ≡ 39)

-- `Of` says which messages the bytes carry, `Hands n x` that the payload call, told n bytes, hands x out of the buffer as reading left it
pub record OnceExact (Of : Message → Type 0) (a : Arrivals) (answer : Result Accepted Refusal) (Hands : ℕ → List ℕ → Type 0) : Type 0 where
  -- a refusal but these two is given exactly when the bytes carry no message
  pub refused : ((w : Refusal) × (answer ≡ Err w) × (ByNumber w → ⊥)) ↔ NoMessage Of
  -- each of the two exactly when they carry one whose number is so refused
  pub by_number : (w : Refusal) → ByNumber w
      → (answer ≡ Err w) ↔ ((M : Message) × Only Of M × (take_of a M.seq ≡ refuse (number_of w) (value_of w)))
  -- and what is accepted is the only one, its number taken
  pub accepted : (m : Accepted) → answer ≡ Ok m
      → (payload : List ℕ) × (length payload ≡ m.len) × Only Of (message_told m.ty m.session_id m.session_sequence_number payload)
      × ((x : List ℕ) → Hands m.len x → x ≡ payload) × ((b : Arrivals) × (take_of a m.session_sequence_number ≡ accept b))
