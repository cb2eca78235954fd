-- No second answer: two answers that keep a call's promise on the same arguments are equal, and so is what they leave in the
-- lent buffer; of a part that is handed out, its bytes and its place.
use Prim.Native.Nat.{ℕ}
use mathlib.Core.Bool.{Bool}
use mathlib.Core.List.{List, [], ◌∷◌}
use mathlib.Core.Path.{◌≡◌, sym, ◌∙◌, ap₂, subst}
use Rattle.text.specs.declared.write.Cursor.{Cursor}
use Rattle.text.proofs.Only.{add_promise_only}
use Rattle.cases.specs.Answer.{Said, SayPromise}
use Rattle.cases.specs.Input.{GatherPromise}
use Rattle.cases.specs.declared.input.Input.{Input}
use Rattle.cases.proofs.split.pick_part.Reads as pick-part-reads
use Rattle.cases.proofs.split.pass_field.Reads as pass-field-reads
use Rattle.cases.proofs.split.pick_field.Reads as pick-field-reads
use Rattle.cases.proofs.split.look_up.Reads as look-up-reads
use Rattle.cases.proofs.values.read_bytes.Reads as read-bytes-reads
use Rattle.cases.proofs.values.read_exact.Reads as read-exact-reads
use Rattle.cases.proofs.values.read_decimal.Reads as read-decimal-reads
use Rattle.cases.proofs.values.read_id.Reads as read-id-reads
use Rattle.cases.proofs.values.read_room.Reads as read-room-reads
use Rattle.cases.proofs.answer.say_bytes.Reads as say-bytes-reads
use Rattle.cases.proofs.answer.say_number.Reads as say-number-reads
use Rattle.cases.proofs.answer.say_id.Reads as say-id-reads
use Rattle.cases.proofs.answer.say_refusal.Reads as say-refusal-reads
use Rattle.cases.proofs.room.fill_room.Reads as fill-room-reads
use Rattle.cases.proofs.room.say_spill.Reads as say-spill-reads
use Rattle.cases.proofs.input.gather.Reads as gather-reads
use Rattle.cases.proofs.input.pick_line.Reads as pick-line-reads

-- parts that are handed out
pub pick_part_only : (κs : _) (args : _) (a b : _) (s t : _) → pick-part-reads.Post κs args a s → pick-part-reads.Post κs args b t
    → (a.now ≡ b.now) × (a.ref_ptr.0 ≡ b.ref_ptr.0) × (a.ref_ptr.1 ≡ b.ref_ptr.1)
pick_part_only κs args a b s t p q = (p.0 ∙ sym q.0, p.1 ∙ sym q.1, p.2 ∙ sym q.2)

pub pick_field_only : (κs : _) (args : _) (a b : _) (s t : _) → pick-field-reads.Post κs args a s → pick-field-reads.Post κs args b t
    → (a.now ≡ b.now) × (a.ref_ptr.0 ≡ b.ref_ptr.0) × (a.ref_ptr.1 ≡ b.ref_ptr.1)
pick_field_only κs args a b s t p q = (p.0 ∙ sym q.0, p.1 ∙ sym q.1, p.2 ∙ sym q.2)

pub pick_line_only : (κs : _) (args : _) (a b : _) (s t : _) → pick-line-reads.Post κs args a s → pick-line-reads.Post κs args b t
    → (a.now ≡ b.now) × (a.ref_ptr.0 ≡ b.ref_ptr.0) × (a.ref_ptr.1 ≡ b.ref_ptr.1)
pick_line_only κs args a b s t p q = (p.0 ∙ sym q.0, p.1 ∙ sym q.1, p.2 ∙ sym q.2)

pub pass_field_only : (κs : _) (args : _) (a b : _) (s t : _) → pass-field-reads.Post κs args a s → pass-field-reads.Post κs args b t → a ≡ b
pass_field_only κs args a b s t p q = p ∙ sym q

-- what a field says
pub look_up_only : (κs : _) (args : _) (a b : _) (s t : _) → look-up-reads.Post κs args a s → look-up-reads.Post κs args b t → a ≡ b
look_up_only κs args a b s t p q = p ∙ sym q

pub read_bytes_only : (κs : _) (args : _) (a b : _) (s t : _) → read-bytes-reads.Post κs args a s → read-bytes-reads.Post κs args b t
    → (a ≡ b) × (s.1.1.0.now ≡ t.1.1.0.now)
read_bytes_only κs args a b s t p q = (p.answer ∙ sym q.answer, p.buffer ∙ sym q.buffer)

pub read_exact_only : (n : ℕ) (f : _) (κs : _) (args : _) (a b : _) (s t : _)
    → read-exact-reads.Post n f κs args a s → read-exact-reads.Post n f κs args b t → a ≡ b
read_exact_only n f κs args a b s t p q = p.answer ∙ sym q.answer

pub read_decimal_only : (κs : _) (args : _) (a b : _) (s t : _)
    → read-decimal-reads.Post κs args a s → read-decimal-reads.Post κs args b t → a ≡ b
read_decimal_only κs args a b s t p q = p ∙ sym q

pub read_id_only : (κs : _) (args : _) (a b : _) (s t : _) → read-id-reads.Post κs args a s → read-id-reads.Post κs args b t → a ≡ b
read_id_only κs args a b s t p q = p ∙ sym q

pub read_room_only : (κs : _) (args : _) (a b : _) (s t : _) → read-room-reads.Post κs args a s → read-room-reads.Post κs args b t → a ≡ b
read_room_only κs args a b s t p q = p ∙ sym q

-- what is said: each piece leaves one cursor and one buffer
said_one : (ps : List (List ℕ)) (d : List ℕ) (c a b : Cursor) (x y : List ℕ) → Said d c ps a x → Said d c ps b y → (a ≡ b) × (x ≡ y)
said_one [] d c a b x y p q = (p.0 ∙ sym q.0, p.1 ∙ sym q.1)
said_one (m ∷ ps) d c a b x y p q =
    let e = add_promise_only d c m p.0 q.0 p.1 q.1 p.2 q.2 in
    let r = subst (λ (k : Cursor). Said p.1 k ps a x) e.0 p.3 in
    said_one ps q.1 q.0 a b x y (subst (λ (k : List ℕ). Said k q.0 ps a x) e.1 r) q.3

say_one : (ps : List (List ℕ)) (d : List ℕ) (c a b : Cursor) (x y : List ℕ) → SayPromise d c ps a x → SayPromise d c ps b y → (a ≡ b) × (x ≡ y)
say_one ps d c a b x y p q = said_one ps d c a b x y p.said q.said

pub say_bytes_only : (κs : _) (args : _) (a b : _) (s t : _) → say-bytes-reads.Post κs args a s → say-bytes-reads.Post κs args b t
    → (a ≡ b) × (s.0.now ≡ t.0.now)
say_bytes_only κs args a b s t p q = say_one _ _ _ a b _ _ p q

pub say_number_only : (κs : _) (args : _) (a b : _) (s t : _) → say-number-reads.Post κs args a s → say-number-reads.Post κs args b t
    → (a ≡ b) × (s.0.now ≡ t.0.now)
say_number_only κs args a b s t p q = say_one _ _ _ a b _ _ p q

pub say_id_only : (κs : _) (args : _) (a b : _) (s t : _) → say-id-reads.Post κs args a s → say-id-reads.Post κs args b t
    → (a ≡ b) × (s.0.now ≡ t.0.now)
say_id_only κs args a b s t p q = say_one _ _ _ a b _ _ p q

pub say_refusal_only : (κs : _) (args : _) (a b : _) (s t : _) → say-refusal-reads.Post κs args a s → say-refusal-reads.Post κs args b t
    → (a ≡ b) × (s.0.now ≡ t.0.now)
say_refusal_only κs args a b s t p q = say_one _ _ _ a b _ _ p q

pub say_spill_only : (κs : _) (args : _) (a b : _) (s t : _) → say-spill-reads.Post κs args a s → say-spill-reads.Post κs args b t
    → (a ≡ b) × (s.0.now ≡ t.0.now)
say_spill_only κs args a b s t p q = say_one _ _ _ a b _ _ p q

-- the room, and the line
pub fill_room_only : (κs : _) (args : _) (a b : _) (s t : _) → fill-room-reads.Post κs args a s → fill-room-reads.Post κs args b t
    → s.0.now ≡ t.0.now
fill_room_only κs args a b s t p q = p ∙ sym q

abbrev whole : ℕ → ℕ → Cursor → Bool → Input
whole n m c w = record { from = n; to = m; line = c; whole = w }

gather_one : (s : Input) (piece line : List ℕ) (a b : Input) (x y : List ℕ)
    → GatherPromise s piece line a x → GatherPromise s piece line b y → (a ≡ b) × (x ≡ y)
gather_one s piece line a b x y p q =
    let e = add_promise_only _ _ _ a.line b.line x y p.added q.added in
    let f : whole a.from a.to a.line a.whole ≡ whole b.from b.to b.line b.whole =
    ap₂ (λ (n m : ℕ). whole n m a.line a.whole) (p.from ∙ sym q.from) (p.to ∙ sym q.to)
    ∙ ap₂ (λ (c : Cursor) (w : Bool). whole b.from b.to c w) e.0 (p.whole ∙ sym q.whole) in
    (f, e.1)

pub gather_only : (κs : _) (args : _) (a b : _) (s t : _) → gather-reads.Post κs args a s → gather-reads.Post κs args b t
    → (a ≡ b) × (s.1.1.0.now ≡ t.1.1.0.now)
gather_only κs args a b s t p q = gather_one _ _ _ a b _ _ p q
