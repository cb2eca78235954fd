-- No second answer: two answers that keep a call's promise on the same arguments are equal.
use Prim.Native.Nat.{ℕ}
use mathlib.Core.Path.{◌≡◌, sym, ◌∙◌, ap}
use Rattle.std.specs.Prelude.{Result}
use Rattle.refusal.specs.Order.{Res}
use Rattle.refusal.specs.declared.Refusal.{Refusal}
use Rattle.refusal.proofs.Answer.{answer_one}
use Rattle.framing.specs.Packet.{Message}
use Rattle.framing.specs.Told.{Shown}
use Rattle.suite.proofs.Only.{type_one}
use Rattle.reader.specs.Answers.{accepted_told, read_told, Tells}
use Rattle.reader.specs.declared.Accepted.{Accepted}
use Rattle.reader.specs.declared.Read.{Read}
use Rattle.reader.proofs.read_checked.Reads as read-checked-reads
use Rattle.reader.proofs.read_with_code.Reads as read-with-code-reads

-- an answer is known by what it tells
accepted_one : (a b : Accepted) → accepted_told a ≡ accepted_told b → a ≡ b
accepted_one a b e =
    let t : a.ty ≡ b.ty = type_one a.ty b.ty (ap (λ (x : Shown). x.ty) e) in
    λ k. record {
      ty = t k;
      session_id = ap (λ (x : Shown). x.id) e k;
      session_sequence_number = ap (λ (x : Shown). x.seq) e k;
      len = ap (λ (x : Shown). x.len) e k;
    }

pub reading_one : (a b : Result Accepted Refusal) → read_told a ≡ read_told b → a ≡ b
reading_one a b e = answer_one accepted_told accepted_one a b e

pub tells_one : (R : Res Message) (n : ℕ) (a b : Read) → Tells R n a → Tells R n b → a ≡ b
tells_one R n a b p q =
    let e : a.answer ≡ b.answer = reading_one _ _ (p.answer ∙ sym q.answer) in
    let f : a.blocks ≡ b.blocks = p.count ∙ sym q.count in
    λ i. record { answer = e i; blocks = f i }

pub read_checked_only : (κs : _) (args : _) (a b : _) (s t : _) → read-checked-reads.Post κs args a s → read-checked-reads.Post κs args b t → a ≡ b
read_checked_only κs args a b s t p q = tells_one _ _ a b p q

pub read_with_code_only : (κs : _) (args : _) (a b : _) (s t : _)
    → read-with-code-reads.Post κs args a s → read-with-code-reads.Post κs args b t → a ≡ b
read_with_code_only κs args a b s t p q = tells_one _ _ a b p q
