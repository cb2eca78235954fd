-- No second answer: two answers that keep a step's promise on the same arguments are equal: the record, the answer, the count told, and
-- every byte of the lent output.
use Prim.Native.Nat.{ℕ}
use mathlib.Core.List.{List}
use mathlib.Core.Path.{◌≡◌, sym, ◌∙◌}
use Rattle.refusal.specs.Order.{Res}
use Rattle.refusal.proofs.Answer.{answer_one, outcome_one}
use Rattle.session.specs.Steps.{Made}
use Rattle.session.specs.Promise.{StepPromise}
use Rattle.session.specs.declared.Record.{Record}
use Rattle.session.specs.declared.Stepped.{Stepped}
use Rattle.session.proofs.request.begin.Reads as begin-reads
use Rattle.session.proofs.response.open_response.Reads as open-reads
use Rattle.session.proofs.keying.message_2.Reads as two-reads
use Rattle.session.proofs.checking.message_4.Reads as four-reads
use Rattle.session.proofs.state.sub_state.Reads as session-reads

step_one : (R : Res Made) (s : Record) (out : List ℕ) (a b : Stepped) (x y : List ℕ)
    → StepPromise R s out a x → StepPromise R s out b y → (a ≡ b) × (x ≡ y)
step_one R s out a b x y p q =
    let f : a.state ≡ b.state = p.next ∙ sym q.next in
    let g : a.answer ≡ b.answer = outcome_one a.answer b.answer (p.answer ∙ sym q.answer) in
    let h : a.len ≡ b.len = p.len ∙ sym q.len in
    ((λ i. record { state = f i; answer = g i; len = h i }), p.buffer ∙ sym q.buffer)

pub begin_only : (κs : _) (args : _) (a b : _) (s t : _)
    → begin-reads.Post κs args a s → begin-reads.Post κs args b t → (a ≡ b) × (s.1.1.0.now ≡ t.1.1.0.now)
begin_only κs args a b s t p q = step_one _ _ _ a b _ _ p q

pub open_response_only : (κs : _) (args : _) (a b : _) (s t : _)
    → open-reads.Post κs args a s → open-reads.Post κs args b t → (a ≡ b) × (s.1.1.1.0.now ≡ t.1.1.1.0.now)
open_response_only κs args a b s t p q = step_one _ _ _ a b _ _ p q

pub message_2_only : (κs : _) (args : _) (a b : _) (s t : _)
    → two-reads.Post κs args a s → two-reads.Post κs args b t → (a ≡ b) × (s.1.1.1.1.0.now ≡ t.1.1.1.1.0.now)
message_2_only κs args a b s t p q = step_one _ _ _ a b _ _ p q

pub message_4_only : (κs : _) (args : _) (a b : _) (s t : _) → four-reads.Post κs args a s → four-reads.Post κs args b t → a ≡ b
message_4_only κs args a b s t p q = (step_one _ _ _ a b _ _ p q).0

pub sub_state_only : (κs : _) (args : _) (a b : _) (s t : _) → session-reads.Post κs args a s → session-reads.Post κs args b t → a ≡ b
sub_state_only κs args a b s t p q = answer_one (λ z. z) (λ _ _ e. e) a b (p.answer ∙ sym q.answer)
