-- No second answer: two answers that keep a call's promise on the same arguments are equal, and so is what they leave in
-- the lent output.
use Prim.Native.Nat.{ℕ}
use mathlib.Core.List.{List}
use mathlib.Core.Path.{◌≡◌, sym, ◌∙◌}
use Rattle.std.specs.Prelude.{Result}
use Rattle.refusal.specs.Order.{Res}
use Rattle.refusal.specs.Answer.{told_as}
use Rattle.refusal.specs.declared.Refusal.{Refusal}
use Rattle.refusal.proofs.Answer.{answer_one}
use Rattle.messages.specs.Block.{numbers}
use Rattle.messages.specs.OpenSession.{response_numbers}
use Rattle.messages.specs.Answers.{told_block, told_open}
use Rattle.messages.specs.Promises.{WritePromise, NamePromise, ReadPromise2}
use Rattle.messages.specs.declared.open_session.AlgorithmPayload.{AlgorithmPayload}
use Rattle.messages.specs.declared.open_session.OpenSessionResponse.{OpenSessionResponse}
use Rattle.messages.specs.declared.rakp_1.Username.{Username}
use Rattle.messages.specs.declared.rakp_2.RakpMessage2.{RakpMessage2}
use Rattle.messages.proofs.Codes.{authentication_code_determines, integrity_code_determines, confidentiality_code_determines, payload_one, response_one}
use Rattle.messages.proofs.auth.AuthenticationAlgorithm.code.Reads as authentication-reads
use Rattle.messages.proofs.auth.IntegrityAlgorithm.code.Reads as integrity-reads
use Rattle.messages.proofs.auth.ConfidentialityAlgorithm.code.Reads as confidentiality-reads
use Rattle.messages.proofs.auth.AuthenticationAlgorithmTryFromU8.try_from.Reads as authentication-named-reads
use Rattle.messages.proofs.auth.IntegrityAlgorithmTryFromU8.try_from.Reads as integrity-named-reads
use Rattle.messages.proofs.auth.ConfidentialityAlgorithmTryFromU8.try_from.Reads as confidentiality-named-reads
use Rattle.messages.proofs.auth.is_level.Reads as is-level-reads
use Rattle.messages.proofs.open_session.AlgorithmPayload.write.Reads as block-write-reads
use Rattle.messages.proofs.open_session.AlgorithmPayload.from_data.Reads as block-reads
use Rattle.messages.proofs.open_session.OpenSessionRequest.write_data.Reads as request-reads
use Rattle.messages.proofs.open_session.OpenSessionResponse.from_data.Reads as response-reads
use Rattle.messages.proofs.rakp_1.Username.new.Reads as username-reads
use Rattle.messages.proofs.rakp_1.RakpMessage1.write.Reads as message1-reads
use Rattle.messages.proofs.rakp_2.RakpMessage2.from_data.Reads as message2-reads
use Rattle.messages.proofs.rakp_3.RakpMessage3.write.Reads as message3-reads
use Rattle.messages.proofs.rakp_3.RakpMessage3.decline.Reads as declined-reads
use Rattle.messages.proofs.rakp_4.RakpMessage4.from_data.Reads as message4-reads

-- what is told as it is
itself_one : {A : Type 0} (a b : Result A Refusal) → told_as (λ x. x) a ≡ told_as (λ x. x) b → a ≡ b
itself_one a b e = answer_one (λ x. x) (λ x y p. p) a b e

pub block_one : (a b : Result AlgorithmPayload Refusal) → told_block a ≡ told_block b → a ≡ b
block_one a b e = answer_one numbers payload_one a b e

opened_one : (a b : Result OpenSessionResponse Refusal) → told_open a ≡ told_open b → a ≡ b
opened_one a b e = answer_one response_numbers response_one a b e

write_one : (bytes out : List ℕ) (a b : Result ℕ Refusal) (x y : List ℕ) → WritePromise bytes out a x → WritePromise bytes out b y
    → (a ≡ b) × (x ≡ y)
write_one bytes out a b x y p q = (itself_one a b (p.answer ∙ sym q.answer), p.buffer ∙ sym q.buffer)

name_one : (R : Res (List ℕ)) (a b : Result Username Refusal) → NamePromise R a → NamePromise R b → a ≡ b
name_one R a b p q = itself_one a b (p.answer ∙ sym q.answer)

pub two_one : (R : Res RakpMessage2) (a b : Result RakpMessage2 Refusal) → ReadPromise2 R a → ReadPromise2 R b → a ≡ b
two_one R a b p q = itself_one a b (p.answer ∙ sym q.answer)

-- the calls

pub authentication_code_only : (κs : _) (args : _) (a b : _) (s t : _)
    → authentication-reads.Post κs args a s → authentication-reads.Post κs args b t → a ≡ b
authentication_code_only κs args a b s t p q = p ∙ sym q

pub integrity_code_only : (κs : _) (args : _) (a b : _) (s t : _)
    → integrity-reads.Post κs args a s → integrity-reads.Post κs args b t → a ≡ b
integrity_code_only κs args a b s t p q = p ∙ sym q

pub confidentiality_code_only : (κs : _) (args : _) (a b : _) (s t : _)
    → confidentiality-reads.Post κs args a s → confidentiality-reads.Post κs args b t → a ≡ b
confidentiality_code_only κs args a b s t p q = p ∙ sym q

pub authentication_named_only : (κs : _) (args : _) (a b : _) (s t : _)
    → authentication-named-reads.Post κs args a s → authentication-named-reads.Post κs args b t → a ≡ b
authentication_named_only κs args a b s t p q = answer_one _ authentication_code_determines a b (p ∙ sym q)

pub integrity_named_only : (κs : _) (args : _) (a b : _) (s t : _)
    → integrity-named-reads.Post κs args a s → integrity-named-reads.Post κs args b t → a ≡ b
integrity_named_only κs args a b s t p q = answer_one _ integrity_code_determines a b (p ∙ sym q)

pub confidentiality_named_only : (κs : _) (args : _) (a b : _) (s t : _)
    → confidentiality-named-reads.Post κs args a s → confidentiality-named-reads.Post κs args b t → a ≡ b
confidentiality_named_only κs args a b s t p q = answer_one _ confidentiality_code_determines a b (p ∙ sym q)

pub is_level_only : (κs : _) (args : _) (a b : _) (s t : _)
    → is-level-reads.Post κs args a s → is-level-reads.Post κs args b t → a ≡ b
is_level_only κs args a b s t p q = p ∙ sym q

pub block_write_only : (κs : _) (args : _) (a b : _) (s t : _)
    → block-write-reads.Post κs args a s → block-write-reads.Post κs args b t → a ≡ b
block_write_only κs args a b s t p q = p ∙ sym q

pub block_only : (κs : _) (args : _) (a b : _) (s t : _) → block-reads.Post κs args a s → block-reads.Post κs args b t → a ≡ b
block_only κs args a b s t p q = block_one a b (p ∙ sym q)

pub request_only : (κs : _) (args : _) (a b : _) (s t : _)
    → request-reads.Post κs args a s → request-reads.Post κs args b t → (a ≡ b) × (s.1.0.now ≡ t.1.0.now)
request_only κs args a b s t p q = write_one _ _ a b _ _ p q

pub response_only : (κs : _) (args : _) (a b : _) (s t : _)
    → response-reads.Post κs args a s → response-reads.Post κs args b t → a ≡ b
response_only κs args a b s t p q = opened_one a b (p ∙ sym q)

pub username_only : (κs : _) (args : _) (a b : _) (s t : _)
    → username-reads.Post κs args a s → username-reads.Post κs args b t → a ≡ b
username_only κs args a b s t p q = name_one _ a b p q

pub message1_only : (κs : _) (args : _) (a b : _) (s t : _)
    → message1-reads.Post κs args a s → message1-reads.Post κs args b t → (a ≡ b) × (s.1.0.now ≡ t.1.0.now)
message1_only κs args a b s t p q = write_one _ _ a b _ _ p q

pub message2_only : (κs : _) (args : _) (a b : _) (s t : _)
    → message2-reads.Post κs args a s → message2-reads.Post κs args b t → a ≡ b
message2_only κs args a b s t p q = two_one _ a b p q

pub message3_only : (κs : _) (args : _) (a b : _) (s t : _)
    → message3-reads.Post κs args a s → message3-reads.Post κs args b t → (a ≡ b) × (s.1.1.0.now ≡ t.1.1.0.now)
message3_only κs args a b s t p q = write_one _ _ a b _ _ p q

pub declined_only : (κs : _) (args : _) (a b : _) (s t : _)
    → declined-reads.Post κs args a s → declined-reads.Post κs args b t → (a ≡ b) × (s.1.0.now ≡ t.1.0.now)
declined_only κs args a b s t p q = write_one _ _ a b _ _ p q

pub message4_only : (κs : _) (args : _) (a b : _) (s t : _)
    → message4-reads.Post κs args a s → message4-reads.Post κs args b t → a ≡ b
message4_only κs args a b s t p q = itself_one a b (p ∙ sym q)
