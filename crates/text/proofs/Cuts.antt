-- Laws of a line's fields: how many there are, and that going on from the end of each field gives all of them in order.
use Prim.Native.Nat.{ℕ, suc, ◌+◌, ◌-◌, ◌<◌, ◌≤◌, min}
use native.Mathlib.Omega.{arith}
use mathlib.Core.Bool.{Bool, true, false, cond}
use mathlib.Core.List.{List, [], ◌∷◌}
use mathlib.Core.Logic.{⊎_elim}
use mathlib.Core.Path.{◌≡◌, refl, sym, ◌∙◌, ap, ap₂}
use lib.Dec.{eqb, ltb, leb}
use lib.ListN.{length, take, drop, length-drop, drop_of_length-le}
use lib.Seq.{drop-drop, take-length}
use borrow.Author.Tests.{eq-eqb, ne_eqb, ltb-false, leb-true, leb-false}
use Rattle.std.specs.List.{count_by, position, position_or_len}
use Rattle.std.specs.Option.{unwrap_or}
use Rattle.std.specs.Prelude.{Some, None}
use Rattle.std.proofs.lemmas.List.Recursion.{is_count_by, is_position_or_len}
use Rattle.octets.specs.Place.{part}
use Rattle.octets.proofs.Order.{eq_or_not}
use Rattle.text.specs.Fields.{upto, on_first, cut}

-- the first field ends where the first separator stands
pub upto_position : (c : ℕ) (l : List ℕ) → length (upto c l) ≡ position_or_len (λ x. eqb x c) l
upto_position c l = is_position_or_len (λ (m : List ℕ). length (upto c m)) (λ x. eqb x c) refl first l
  where
    first : (x : ℕ) (m : List ℕ) → length (upto c (x ∷ m)) ≡ cond (eqb x c) 0 (1 + length (upto c m))
    first x m = by_test (eqb x c)
      where
        by_test : (t : Bool) → length (cond t [] (x ∷ upto c m)) ≡ cond t 0 (1 + length (upto c m))
        by_test true = refl
        by_test false = omega arith

upto_within : (c : ℕ) (l : List ℕ) → length (upto c l) ≤ length l
upto_within c [] = omega arith
upto_within c (x ∷ l) = by_test (eqb x c) (upto_within c l)
  where
    by_test : (t : Bool) → length (upto c l) ≤ length l → length (cond t [] (x ∷ upto c l)) ≤ length (x ∷ l)
    by_test true h = omega arith
    by_test false h = omega arith

-- or where the line ends, if there is none
pub ends_at : (c : ℕ) (l : List ℕ) → unwrap_or (position (λ x. eqb x c) l) (length l) ≡ length (upto c l)
ends_at c l = rw (sym (upto_position c l)) (by_test (ltb (length (upto c l)) (length l)) refl)
  where
    by_test : (t : Bool) → ltb (length (upto c l)) (length l) ≡ t → unwrap_or (cond t (Some (length (upto c l))) None) (length l) ≡ length (upto c l)
    by_test true e = refl
    by_test false e = omega (arith, upto_within c l, ltb-false (length (upto c l)) (length l) e)

-- what stands behind a place: nothing past the end
pub behind : (s : List ℕ) (a m : ℕ) → m ≡ min a (length s) → take (length s - m) (drop m s) ≡ drop a s
behind s a m e = ap (λ (n : ℕ). take n (drop m s)) (sym (length-drop m s)) ∙ take-length (drop m s) ∙ by_test (leb a (length s)) refl
  where
    by_test : (t : Bool) → leb a (length s) ≡ t → drop m s ≡ drop a s
    by_test true f = let h : m ≡ a = omega (arith, leb-true a (length s) f) in ap (λ (n : ℕ). drop n s) h
    by_test false f =
        let h : length s ≤ a = omega (arith, leb-false a (length s) f) in
        let k : length s ≤ m = omega arith in
        drop_of_length-le s k ∙ sym (drop_of_length-le s h)

-- there is at least one field
pub cut_some : (c : ℕ) (l : List ℕ) → 0 < length (cut c l)
cut_some c [] = omega arith
cut_some c (x ∷ l) = by_end (eqb x c) (cut c l)
  where
    by_end : (t : Bool) (fs : List (List ℕ)) → 0 < length (cond t ([] ∷ fs) (on_first x fs))
    by_end true fs = omega arith
    by_end false [] = omega arith
    by_end false (f ∷ fs) = omega arith

on_first-length : (x : ℕ) (fs : List (List ℕ)) → 0 < length fs → length (on_first x fs) ≡ length fs
on_first-length x [] h = absurd (omega arith)
on_first-length x (f ∷ fs) h = refl

-- there is one field more than there are separators
pub length_cut : (c : ℕ) (l : List ℕ) → length (cut c l) ≡ suc (count_by (λ x. eqb x c) l)
length_cut c l = omega (arith, cut_some c l, is_count_by (λ (m : List ℕ). length (cut c m) - 1) (λ x. eqb x c) refl separators l)
  where
    separators : (x : ℕ) (m : List ℕ) → length (cut c (x ∷ m)) - 1 ≡ cond (eqb x c) (1 + (length (cut c m) - 1)) (length (cut c m) - 1)
    separators x m = by_test (eqb x c)
      where
        by_test : (t : Bool) → length (cond t ([] ∷ cut c m) (on_first x (cut c m))) - 1 ≡ cond t (1 + (length (cut c m) - 1)) (length (cut c m) - 1)
        by_test true = omega (arith, cut_some c m)
        by_test false = omega (arith, on_first-length x (cut c m) (cut_some c m))

-- the first field and the others, by the test of the first character
module _ (c x : ℕ) (l : List ℕ) where
  stops : x ≡ c → (upto c (x ∷ l) ≡ []) × (cut c (x ∷ l) ≡ [] ∷ cut c l)
  stops e = (rw (eq-eqb x c e), rw (eq-eqb x c e))

  goes : (x ≡ c → ⊥) → (upto c (x ∷ l) ≡ x ∷ upto c l) × (cut c (x ∷ l) ≡ on_first x (cut c l))
  goes n = (rw (ne_eqb x c n), rw (ne_eqb x c n))

-- a field is what stands from its start to its end
pub upto_take : (c : ℕ) (l : List ℕ) → upto c l ≡ take (length (upto c l)) l
upto_take c [] = refl
upto_take c (x ∷ l) =
    ⊎_elim
    (λ (e : x ≡ c). let s = (stops c x l e).0 in s ∙ ap (λ (q : List ℕ). take (length q) (x ∷ l)) (sym s))
    (λ (n : x ≡ c → ⊥).
    let s = (goes c x l n).0 in
    s ∙ ap (λ (q : List ℕ). x ∷ q) (upto_take c l) ∙ ap (λ (q : List ℕ). take (length q) (x ∷ l)) (sym s))
    (eq_or_not x c)

-- a line in which a separator stands: the first field, and the fields after that separator
cut_first : (c : ℕ) (l : List ℕ) → length (upto c l) < length l → cut c l ≡ upto c l ∷ cut c (drop (suc (length (upto c l))) l)
cut_first c [] h = absurd (omega arith)
cut_first c (x ∷ l) h =
    ⊎_elim
    (λ (e : x ≡ c).
    let s = stops c x l e in
    s.1 ∙ ap (λ (q : List ℕ). q ∷ cut c (drop (suc (length q)) (x ∷ l))) (sym s.0))
    (λ (n : x ≡ c → ⊥).
    let s = goes c x l n in
    let k : length (upto c l) < length l = omega (arith, ap length s.0) in
    s.1
    ∙ ap (on_first x) (cut_first c l k)
    ∙ ap (λ (q : List ℕ). q ∷ cut c (drop (suc (length q)) (x ∷ l))) (sym s.0))
    (eq_or_not x c)

-- a line in which none does is one field
cut_only : (c : ℕ) (l : List ℕ) → length l ≤ length (upto c l) → cut c l ≡ upto c l ∷ []
cut_only c [] h = refl
cut_only c (x ∷ l) h =
    ⊎_elim
    (λ (e : x ≡ c). absurd (omega (arith, ap length (stops c x l e).0)))
    (λ (n : x ≡ c → ⊥).
    let s = goes c x l n in
    let k : length l ≤ length (upto c l) = omega (arith, ap length s.0) in
    s.1 ∙ ap (on_first x) (cut_only c l k) ∙ ap (λ (q : List ℕ). q ∷ []) (sym s.0))
    (eq_or_not x c)

-- The fields from a place on: the one that starts there and ends where `field_end` says, and then those from behind its
-- separator on, or no other where the line ends there. So a reader that goes on from each end meets every field, in order.
module _ (c i : ℕ) (l : List ℕ) (e : ℕ) (f : e ≡ i + length (upto c (drop i l))) where
  first : upto c (drop i l) ≡ part l i (e - i)
  first = let k : length (upto c (drop i l)) ≡ e - i = omega arith in upto_take c (drop i l) ∙ ap (λ (n : ℕ). take n (drop i l)) k

  pub walk_on : e < length l → cut c (drop i l) ≡ part l i (e - i) ∷ cut c (drop (e + 1) l)
  walk_on h =
      let k : length (upto c (drop i l)) < length (drop i l) = omega (arith, length-drop i l) in
      let o : i + suc (length (upto c (drop i l))) ≡ e + 1 = omega arith in
      cut_first c (drop i l) k
      ∙ ap₂ (λ (p q : List ℕ). p ∷ cut c q) first (drop-drop (suc (length (upto c (drop i l)))) i l ∙ ap (λ (n : ℕ). drop n l) o)

  pub walk_end : length l ≤ e → cut c (drop i l) ≡ part l i (e - i) ∷ []
  walk_end h =
      let k : length (drop i l) ≤ length (upto c (drop i l)) = omega (arith, length-drop i l) in
      cut_only c (drop i l) k ∙ ap (λ (p : List ℕ). p ∷ []) first
