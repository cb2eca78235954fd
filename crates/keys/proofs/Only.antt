-- No second answer: two answers that keep a call's promise on the same arguments are equal; of a part handed out, its bytes and
-- its place.
use mathlib.Core.Path.{◌≡◌, sym, ◌∙◌}
use Rattle.sha1_hmac.proofs.Only.{hashed_one}
use Rattle.keys.proofs.keys.Keys.from_sik.Reads as from-sik-reads
use Rattle.keys.proofs.keys.Keys.aes_key.Reads as aes-key-reads
use Rattle.keys.proofs.state.kg.Reads as kg-reads
use Rattle.keys.proofs.state.message_2_code.Reads as message-2-code-reads
use Rattle.keys.proofs.state.sik.Reads as sik-reads
use Rattle.keys.proofs.state.message_3_code.Reads as message-3-code-reads
use Rattle.keys.proofs.state.message_4_value.Reads as message-4-value-reads

pub from_sik_only : (κs : _) (args : _) (a b : _) (s t : _) → from-sik-reads.Post κs args a s → from-sik-reads.Post κs args b t → a ≡ b
from_sik_only κs args a b s t p q = p ∙ sym q

pub aes_key_only : (κs : _) (args : _) (a b : _) (s t : _) → aes-key-reads.Post κs args a s → aes-key-reads.Post κs args b t → a ≡ b
aes_key_only κs args a b s t p q = p ∙ sym q

pub kg_only : (κs : _) (args : _) (a b : _) (s t : _) → kg-reads.Post κs args a s → kg-reads.Post κs args b t → (a.now ≡ b.now) × (a.ref_ptr ≡ b.ref_ptr)
kg_only κs args a b s t p q = (p.0 ∙ sym q.0, p.1 ∙ sym q.1)

pub message_2_code_only : (κs : _) (args : _) (a b : _) (s t : _)
    → message-2-code-reads.Post κs args a s → message-2-code-reads.Post κs args b t → a ≡ b
message_2_code_only κs args a b s t p q = hashed_one _ _ _ a b p q

pub sik_only : (κs : _) (args : _) (a b : _) (s t : _) → sik-reads.Post κs args a s → sik-reads.Post κs args b t → a ≡ b
sik_only κs args a b s t p q = hashed_one _ _ _ a b p q

pub message_3_code_only : (κs : _) (args : _) (a b : _) (s t : _)
    → message-3-code-reads.Post κs args a s → message-3-code-reads.Post κs args b t → a ≡ b
message_3_code_only κs args a b s t p q = hashed_one _ _ _ a b p q

pub message_4_value_only : (κs : _) (args : _) (a b : _) (s t : _)
    → message-4-value-reads.Post κs args a s → message-4-value-reads.Post κs args b t → a ≡ b
message_4_value_only κs args a b s t p q = p ∙ sym q
