-- No second answer: two answers that keep a call's promise on the same refusal are equal.
use mathlib.Core.Path.{◌≡◌, sym, ◌∙◌}
use Rattle.refusal.proofs.Refusal.number.Reads as number-reads
use Rattle.refusal.proofs.Refusal.value.Reads as value-reads

pub number_only : (κs : _) (args : _) (a b : _) (s t : _) → number-reads.Post κs args a s → number-reads.Post κs args b t → a ≡ b
number_only κs args a b s t p q = p ∙ sym q

pub value_only : (κs : _) (args : _) (a b : _) (s t : _) → value-reads.Post κs args a s → value-reads.Post κs args b t → a ≡ b
value_only κs args a b s t p q = p ∙ sym q
