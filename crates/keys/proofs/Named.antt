-- The name in its sixteen bytes, and the first bytes of a code.
use Prim.Native.Nat.{ℕ, zero, suc, ◌≤◌, ◌<◌, min}
use native.Mathlib.Omega.{arith}
use mathlib.Core.List.{List, [], ◌∷◌, ◌++◌, append_assoc}
use mathlib.Core.Logic.{⊎_elim}
use mathlib.Core.Path.{◌≡◌, refl, sym, ◌∙◌, ap, ap₂}
use lib.ListN.{length, take, get_or, length-take}
use lib.Seq.{take_all, take-suc}
use Rattle.octets.specs.Place.{part, filled}
use Rattle.octets.proofs.Filled.{filled-part}
use Rattle.octets.proofs.Order.{lt_or_le}
use Rattle.keys.specs.Named.{named_of}
use Rattle.keys.specs.declared.state.Named.{Named}

-- more bytes than there are is all of them
take_min : (n : ℕ) (l : List ℕ) → take (min n (length l)) l ≡ take n l
take_min n l =
    ⊎_elim
    (λ (h : n < length l). let e : min n (length l) ≡ n = omega arith in ap (λ (k : ℕ). take k l) e)
    (λ (h : length l ≤ n). let g : length l ≤ min n (length l) = omega arith in take_all _ l g ∙ sym (take_all n l h))
    (lt_or_le n (length l))

-- role byte, count and name as they are fed are N
pub named_text : (l : List ℕ) (w : Named) (m : ℕ) → length w.name ≡ 16 → m ≡ min w.len 16
    → (l ++ (w.role ∷ m ∷ [])) ++ take m w.name ≡ l ++ named_of w
named_text l w m h e =
    let f : m ≡ min w.len (length w.name) = e ∙ ap (min w.len) (sym h) in
    append_assoc l (w.role ∷ m ∷ []) (take m w.name)
    ∙ ap₂ (λ (x : ℕ) (y : List ℕ). l ++ (w.role ∷ x ∷ y)) (f ∙ sym (length-take w.len w.name)) (ap (λ (k : ℕ). take k w.name) f ∙ take_min w.len w.name)

-- the first n bytes of a list, read one by one
abbrev pub reads : ℕ → List ℕ → List ℕ
reads zero d = []
reads (suc n) d = reads n d ++ (get_or d n 0 ∷ [])

pub reads_take : (n : ℕ) (d : List ℕ) → n ≤ length d → reads n d ≡ take n d
reads_take zero d h = refl
reads_take (suc n) d h = ap (λ (l : List ℕ). l ++ (get_or d n 0 ∷ [])) (reads_take n d (omega arith)) ∙ sym (take-suc d n 0 (omega arith))

-- cut out at once they are the same
pub cut_reads : (n : ℕ) (d : List ℕ) → n ≤ length d → filled n (part d 0 n) ≡ reads n d
cut_reads n d h = filled-part n d 0 (omega arith) ∙ sym (reads_take n d h)
