-- No second answer: two answers that keep a call's promise on the same arguments are equal.
use mathlib.Core.Path.{◌≡◌, sym, ◌∙◌}
use Rattle.refusal.proofs.Answer.{answer_one}
use Rattle.arrivals.proofs.Arrivals.new.Reads as new-reads
use Rattle.arrivals.proofs.Arrivals.take.Reads as take-reads
use Rattle.arrivals.proofs.Arrivals.count.Reads as count-reads

pub new_only : (κs : _) (args : _) (a b : _) (s t : _) → new-reads.Post κs args a s → new-reads.Post κs args b t → a ≡ b
new_only κs args a b s t p q = p ∙ sym q

pub take_only : (κs : _) (args : _) (a b : _) (s t : _) → take-reads.Post κs args a s → take-reads.Post κs args b t → a ≡ b
take_only κs args a b s t p q = answer_one (λ x. x) (λ x y e. e) a b (p ∙ sym q)

pub count_only : (κs : _) (args : _) (a b : _) (s t : _) → count-reads.Post κs args a s → count-reads.Post κs args b t → a ≡ b
count_only κs args a b s t p q = p ∙ sym q
