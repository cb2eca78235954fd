-- No second answer: two answers that keep a call's promise on the same arguments are equal, and so are the buffers.
use Prim.Native.Nat.{ℕ}
use mathlib.Core.List.{List}
use mathlib.Core.Path.{◌≡◌, sym, ◌∙◌}
use Rattle.refusal.specs.Order.{Res}
use Rattle.refusal.proofs.Answer.{outcome_one}
use Rattle.framing.specs.Packet.{Message}
use Rattle.reader.specs.declared.Read.{Read}
use Rattle.reader.proofs.Only.{tells_one}
use Rattle.frame.specs.Answers.{ReadPromise}
use Rattle.frame.proofs.place.payload.Reads as payload-reads
use Rattle.frame.proofs.opening.open_in_place.Reads as open-in-place-reads
use Rattle.frame.proofs.opening.check_outer.Reads as check-outer-reads
use Rattle.frame.proofs.opening.read_payload.Reads as read-payload-reads
use Rattle.frame.proofs.opening.read_datagram.Reads as read-datagram-reads

promise_one : (R : Res Message) (n : ℕ) (left : List ℕ) (a b : Read) (x y : List ℕ)
    → ReadPromise R n left a x → ReadPromise R n left b y → (a ≡ b) × (x ≡ y)
promise_one R n left a b x y p q = (tells_one R n a b p.tells q.tells, p.buffer ∙ sym q.buffer)

-- of a part that is handed out: its bytes and its place
pub payload_only : (κs : _) (args : _) (a b : _) (s t : _) → payload-reads.Post κs args a s → payload-reads.Post κs args b t
    → (a.now ≡ b.now) × (a.ref_ptr.0 ≡ b.ref_ptr.0) × (a.ref_ptr.1 ≡ b.ref_ptr.1)
payload_only κs args a b s t p q = (p.0 ∙ sym q.0, p.1 ∙ sym q.1, p.2 ∙ sym q.2)

-- of the opening: what it leaves
pub open_in_place_only : (κs : _) (args : _) (a b : _) (s t : _)
    → open-in-place-reads.Post κs args a s → open-in-place-reads.Post κs args b t → s.1.0.now ≡ t.1.0.now
open_in_place_only κs args a b s t p q = p ∙ sym q

pub read_payload_only : (κs : _) (args : _) (a b : _) (s t : _)
    → read-payload-reads.Post κs args a s → read-payload-reads.Post κs args b t → (a ≡ b) × (s.1.0.now ≡ t.1.0.now)
read_payload_only κs args a b s t p q = promise_one _ _ _ a b _ _ p.0 q.0

pub read_datagram_only : (κs : _) (args : _) (a b : _) (s t : _)
    → read-datagram-reads.Post κs args a s → read-datagram-reads.Post κs args b t → (a ≡ b) × (s.1.0.now ≡ t.1.0.now)
read_datagram_only κs args a b s t p q = promise_one _ _ _ a b _ _ p.0 q.0

pub check_outer_only : (κs : _) (args : _) (a b : _) (s t : _) → check-outer-reads.Post κs args a s → check-outer-reads.Post κs args b t → a ≡ b
check_outer_only κs args a b s t p q = outcome_one a b (p ∙ sym q)
