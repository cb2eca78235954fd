-- No second answer: two answers that keep a call's promise on the same arguments are equal, and so is what they leave in the
-- lent buffer.
use Prim.Native.Nat.{ℕ}
use mathlib.Core.List.{List}
use mathlib.Core.Path.{◌≡◌, sym, ◌∙◌}
use Rattle.text.specs.Promise.{AddPromise}
use Rattle.text.specs.declared.write.Cursor.{Cursor}
use Rattle.text.proofs.write.add.Reads as add-reads
use Rattle.text.proofs.write.decimal.Reads as decimal-reads
use Rattle.text.proofs.write.hex.Reads as hex-reads
use Rattle.text.proofs.write.hex8.Reads as hex8-reads
use Rattle.text.proofs.line.packet_line.Reads as packet-line-reads
use Rattle.text.proofs.read.undecimal.Reads as undecimal-reads
use Rattle.text.proofs.read.unhex8.Reads as unhex8-reads
use Rattle.text.proofs.read.unhex.Reads as unhex-reads
use Rattle.text.proofs.split.field_end.Reads as field-end-reads
use Rattle.text.proofs.split.fields.Reads as fields-reads

-- the same of anything that is added at a cursor
pub add_promise_only : (d : List ℕ) (c : Cursor) (m : List ℕ) (a b : Cursor) (x y : List ℕ)
    → AddPromise d c m a x → AddPromise d c m b y → (a ≡ b) × (x ≡ y)
add_promise_only d c m a b x y p q = (p.cursor ∙ sym q.cursor, p.buffer ∙ sym q.buffer)

pub add_only : (κs : _) (args : _) (a b : _) (s t : _)
    → add-reads.Post κs args a s → add-reads.Post κs args b t → (a ≡ b) × (s.0.now ≡ t.0.now)
add_only κs args a b s t p q = add_promise_only _ _ _ a b _ _ p q

pub decimal_only : (κs : _) (args : _) (a b : _) (s t : _)
    → decimal-reads.Post κs args a s → decimal-reads.Post κs args b t → (a ≡ b) × (s.0.now ≡ t.0.now)
decimal_only κs args a b s t p q = add_promise_only _ _ _ a b _ _ p q

pub hex_only : (κs : _) (args : _) (a b : _) (s t : _)
    → hex-reads.Post κs args a s → hex-reads.Post κs args b t → (a ≡ b) × (s.0.now ≡ t.0.now)
hex_only κs args a b s t p q = add_promise_only _ _ _ a b _ _ p q

pub hex8_only : (κs : _) (args : _) (a b : _) (s t : _)
    → hex8-reads.Post κs args a s → hex8-reads.Post κs args b t → (a ≡ b) × (s.0.now ≡ t.0.now)
hex8_only κs args a b s t p q = add_promise_only _ _ _ a b _ _ p q

pub packet_line_only : (κs : _) (args : _) (a b : _) (s t : _)
    → packet-line-reads.Post κs args a s → packet-line-reads.Post κs args b t → (a ≡ b) × (s.0.now ≡ t.0.now)
packet_line_only κs args a b s t p q = add_promise_only _ _ _ a b _ _ p q

pub unhex_only : (κs : _) (args : _) (a b : _) (s t : _)
    → unhex-reads.Post κs args a s → unhex-reads.Post κs args b t → (a ≡ b) × (s.0.now ≡ t.0.now)
unhex_only κs args a b s t p q = (p.answer ∙ sym q.answer, p.buffer ∙ sym q.buffer)

pub undecimal_only : (κs : _) (args : _) (a b : _) (s t : _)
    → undecimal-reads.Post κs args a s → undecimal-reads.Post κs args b t → a ≡ b
undecimal_only κs args a b s t p q = p ∙ sym q

pub unhex8_only : (κs : _) (args : _) (a b : _) (s t : _)
    → unhex8-reads.Post κs args a s → unhex8-reads.Post κs args b t → a ≡ b
unhex8_only κs args a b s t p q = p ∙ sym q

pub field_end_only : (κs : _) (args : _) (a b : _) (s t : _)
    → field-end-reads.Post κs args a s → field-end-reads.Post κs args b t → a ≡ b
field_end_only κs args a b s t p q = p ∙ sym q

pub fields_only : (κs : _) (args : _) (a b : _) (s t : _)
    → fields-reads.Post κs args a s → fields-reads.Post κs args b t → a ≡ b
fields_only κs args a b s t p q = p ∙ sym q
