-- No second answer: two answers that keep a call's promise on the same arguments are equal, and so are the buffers.
use Prim.Native.Nat.{ℕ}
use mathlib.Core.List.{List}
use mathlib.Core.Path.{◌≡◌, sym, ◌∙◌}
use Rattle.refusal.specs.Order.{Res}
use Rattle.framing.specs.Packet.{Message}
use Rattle.reader.proofs.Only.{tells_one}
use Rattle.arrivals.specs.declared.Arrivals.{Arrivals}
use Rattle.once.specs.Promise.{OncePromise}
use Rattle.once.specs.declared.ReadOnce.{ReadOnce}
use Rattle.once.proofs.read_payload.Reads as read-payload-reads
use Rattle.once.proofs.read_datagram.Reads as read-datagram-reads

promise_one : (r : Arrivals) (R : Res Message) (n : ℕ) (left lent : List ℕ) (a b : ReadOnce) (x y : List ℕ)
    → OncePromise r R n left lent a x → OncePromise r R n left lent b y → (a ≡ b) × (x ≡ y)
promise_one r R n left lent a b x y p q = (
  λ i. record {
    read = tells_one _ n a.read b.read p.read.tells q.read.tells i;
    arrivals = (p.record_left ∙ sym q.record_left) i;
  },
  p.read.buffer ∙ sym q.read.buffer,
)

pub read_payload_only : (κs : _) (args : _) (a b : _) (s t : _)
    → read-payload-reads.Post κs args a s → read-payload-reads.Post κs args b t → (a ≡ b) × (s.1.1.0.now ≡ t.1.1.0.now)
read_payload_only κs args a b s t p q = promise_one _ _ _ _ _ a b _ _ p.0 q.0

pub read_datagram_only : (κs : _) (args : _) (a b : _) (s t : _)
    → read-datagram-reads.Post κs args a s → read-datagram-reads.Post κs args b t → (a ≡ b) × (s.1.1.0.now ≡ t.1.1.0.now)
read_datagram_only κs args a b s t p q = promise_one _ _ _ _ _ a b _ _ p.0 q.0
