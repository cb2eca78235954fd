-- No second answer: two answers that keep a call's promise on the same arguments are equal, and so is what they leave in
-- the lent buffer.
use Prim.Native.Nat.{ℕ}
use mathlib.Core.Bool.{Bool}
use mathlib.Core.List.{List}
use mathlib.Core.Path.{◌≡◌, sym, ◌∙◌}
use Rattle.octets.specs.Promise.{PutPromise}
use Rattle.octets.proofs.load_le2.Reads as load-le2-reads
use Rattle.octets.proofs.load_le4.Reads as load-le4-reads
use Rattle.octets.proofs.put.Reads as put-reads
use Rattle.octets.proofs.same.Reads as same-reads
use Rattle.octets.proofs.le.Reads as le-reads
use Rattle.octets.proofs.be.Reads as be-reads
use Rattle.octets.proofs.cut.Reads as cut-reads

pub le_only : (n : ℕ) (f : _) (κs : _) (args : _) (a b : _) (s t : _)
    → le-reads.Post n f κs args a s → le-reads.Post n f κs args b t → a ≡ b
le_only n f κs args a b s t p q = p ∙ sym q

pub be_only : (n : ℕ) (f : _) (κs : _) (args : _) (a b : _) (s t : _)
    → be-reads.Post n f κs args a s → be-reads.Post n f κs args b t → a ≡ b
be_only n f κs args a b s t p q = p ∙ sym q

pub cut_only : (n : ℕ) (f : _) (κs : _) (args : _) (a b : _) (s t : _)
    → cut-reads.Post n f κs args a s → cut-reads.Post n f κs args b t → a ≡ b
cut_only n f κs args a b s t p q = p ∙ sym q

pub load_le2_only : (κs : _) (args : _) (a b : _) (s t : _)
    → load-le2-reads.Post κs args a s → load-le2-reads.Post κs args b t → a ≡ b
load_le2_only κs args a b s t p q = p ∙ sym q

pub load_le4_only : (κs : _) (args : _) (a b : _) (s t : _)
    → load-le4-reads.Post κs args a s → load-le4-reads.Post κs args b t → a ≡ b
load_le4_only κs args a b s t p q = p ∙ sym q

pub same_only : (κs : _) (args : _) (a b : _) (s t : _) → same-reads.Post κs args a s → same-reads.Post κs args b t → a ≡ b
same_only κs args a b s t p q = p ∙ sym q

promise_only : (d : List ℕ) (n : ℕ) (m : List ℕ) (a b : Bool) (x y : List ℕ)
    → PutPromise d n m a x → PutPromise d n m b y → (a ≡ b) × (x ≡ y)
promise_only d n m a b x y p q = (p.answer ∙ sym q.answer, p.buffer ∙ sym q.buffer)

pub put_only : (κs : _) (args : _) (a b : _) (s t : _)
    → put-reads.Post κs args a s → put-reads.Post κs args b t → (a ≡ b) × (s.0.now ≡ t.0.now)
put_only κs args a b s t p q = promise_only _ _ _ a b _ _ p q
