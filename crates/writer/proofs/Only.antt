-- No second answer: two answers that keep a call's promise on the same arguments are equal, and so are the outputs.
use mathlib.Core.List.{List}
use mathlib.Core.Path.{◌≡◌, sym, ◌∙◌}
use Prim.Native.Nat.{ℕ}
use Rattle.std.specs.Prelude.{Result}
use Rattle.refusal.specs.Order.{Res}
use Rattle.refusal.specs.declared.Refusal.{Refusal}
use Rattle.refusal.proofs.Answer.{answer_one}
use Rattle.writer.specs.Answers.{WritePromise}
use Rattle.writer.proofs.write_payload.Reads as write-payload-reads
use Rattle.writer.proofs.write_datagram.Reads as write-datagram-reads

write_one : (R : Res (List ℕ)) (d : List ℕ) (a b : Result ℕ Refusal) (x y : List ℕ) → WritePromise R d a x → WritePromise R d b y → (a ≡ b) × (x ≡ y)
write_one R d a b x y p q = (answer_one (λ n. n) (λ n m e. e) a b (p.answer ∙ sym q.answer), p.buffer ∙ sym q.buffer)

pub write_payload_only : (κs : _) (args : _) (a b : _) (s t : _) → write-payload-reads.Post κs args a s → write-payload-reads.Post κs args b t
    → (a ≡ b) × (s.1.1.1.1.1.1.0.now ≡ t.1.1.1.1.1.1.0.now)
write_payload_only κs args a b s t p q = write_one _ _ a b _ _ p.0 q.0

pub write_datagram_only : (κs : _) (args : _) (a b : _) (s t : _) → write-datagram-reads.Post κs args a s → write-datagram-reads.Post κs args b t
    → (a ≡ b) × (s.1.1.1.1.1.1.0.now ≡ t.1.1.1.1.1.1.0.now)
write_datagram_only κs args a b s t p q = write_one _ _ a b _ _ p.0 q.0
