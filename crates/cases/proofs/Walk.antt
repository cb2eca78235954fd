-- Laws of going through a line's fields: that going on behind each separator meets the fields that the line is cut into.
use Prim.Native.Nat.{ℕ, zero, suc, ◌+◌, ◌-◌, ◌≤◌, ◌<◌}
use native.Mathlib.Omega.{arith}
use native.Mathlib.Numerals.{add-one}
use mathlib.Core.Bool.{Bool, true, false, cond, ◌&&◌}
use mathlib.Core.List.{List, [], ◌∷◌}
use mathlib.Core.Logic.{◌⊎◌, inl, inr, ⊎_elim}
use mathlib.Core.Path.{◌≡◌, refl, sym, ◌∙◌, ap}
use lib.ListN.{length, get_or, take, drop, length-drop, length-take, drop_of_length-le}
use lib.Dec.{eqb, ltb}
use lib.Pointwise.{pointwise}
use lib.Seq.{drop-cons, drop-drop, get_or-drop}
use borrow.Author.Tests.{lt-ltb, le-ltb, ltb-false}
use Rattle.std.specs.List.{position, position_or_len, slice_split, onto_first}
use Rattle.std.specs.Option.{unwrap_or}
use Rattle.std.specs.Prelude.{Option, Some, None}
use Rattle.std.proofs.lemmas.List.Recursion.{is_position_or_len}
use Rattle.octets.specs.Equal.{same}
use Rattle.octets.proofs.Order.{lt_or_le}
use Rattle.text.specs.Fields.{upto, on_first, cut}
use Rattle.text.proofs.Cuts.{upto_take, walk_on, walk_end}
use Rattle.cases.specs.Fields.{part_of, part_at, past_of, behind, behind_at, field_of, place_of}
use Rattle.cases.proofs.Parts.{part_there, part_at_inside}
use Rattle.octets.proofs.Order.{cond_true, cond_false}

-- a field is no longer than what it begins
pub upto_short : (c : ℕ) (l : List ℕ) → length (upto c l) ≤ length l
upto_short c l = omega (arith, ap length (upto_take c l), length-take (length (upto c l)) l)

-- from a place in the line to behind the next separator, or to the line's end
module _ (c a e : ℕ) (l : List ℕ) (f : e ≡ a + length (upto c (drop a l))) where
  pub past_on : e < length l → e + 1 ≡ past_of c l a
  unfolding past_of
  past_on h =
      let k : a + length (upto c (drop a l)) < length l = omega arith in
      let n : e + 1 ≡ a + length (upto c (drop a l)) + 1 = omega arith in
      n ∙ sym (cond_true _ (a + length (upto c (drop a l)) + 1) (length l) (lt-ltb (a + length (upto c (drop a l))) (length l) k))

  pub past_end : length l ≤ e → length l ≡ past_of c l a
  unfolding past_of
  past_end h =
      let k : length l ≤ a + length (upto c (drop a l)) = omega arith in
      sym (cond_false _ (a + length (upto c (drop a l)) + 1) (length l) (le-ltb (a + length (upto c (drop a l))) (length l) k))

-- what stands from there on
module _ (c a : ℕ) (l : List ℕ) where
  pub past_drop : (past_of c l a ≤ length l) × (drop (past_of c l a) l ≡ drop (suc (length (upto c (drop a l)))) (drop a l))
  past_drop =
      ⊎_elim
      (λ (h : a + length (upto c (drop a l)) < length l).
      let e = past_on c a (a + length (upto c (drop a l))) l refl h in
      let n : past_of c l a ≡ a + suc (length (upto c (drop a l))) = sym e ∙ omega arith in
      (omega (arith, n), ap (λ (k : ℕ). drop k l) n ∙ sym (drop-drop (suc (length (upto c (drop a l)))) a l)))
      (λ (h : length l ≤ a + length (upto c (drop a l))).
      let e = past_end c a (a + length (upto c (drop a l))) l refl h in
      let n : length l ≤ a + suc (length (upto c (drop a l))) = omega arith in
      let o : length l ≤ length l = omega arith in (
        omega (arith, e),
        ap (λ (k : ℕ). drop k l) (sym e)
            ∙ drop_of_length-le l o
            ∙ sym (drop-drop (suc (length (upto c (drop a l)))) a l ∙ drop_of_length-le l n),
      ))
      (lt_or_le (a + length (upto c (drop a l))) (length l))

-- one separator more
pub behind_next : (c i a r : ℕ) (l : List ℕ) → drop a l ≡ behind c i l → r ≡ past_of c l a
    → (r ≤ length l) × (drop r l ≡ behind c (i + 1) l)
behind_next c i a r l e f =
    let p = past_drop c a l in (
      omega (arith, f, p.0),
      ap (λ (k : ℕ). drop k l) f
          ∙ p.1
          ∙ ap (λ (q : List ℕ). drop (suc (length (upto c q))) q) e
          ∙ ap (λ (j : ℕ). behind c j l) (sym (add-one i)),
    )

-- where that begins
behind_at_here : (c k : ℕ) (l : List ℕ) (a : ℕ) → a ≤ length l → drop a l ≡ behind c k l → behind_at c k l ≡ a
unfolding behind_at
behind_at_here c k l a h e = ap (λ (q : List ℕ). length l - length q) (sym e) ∙ omega (arith, length-drop a l)

-- the fields from the k-th on are those of what stands behind k separators, if there are so many
abbrev Met : ℕ → List ℕ → ℕ → Type 0
Met c l k = (drop k (cut c l) ≡ cut c (behind c k l)) ⊎ ((drop k (cut c l) ≡ []) × (behind c k l ≡ []))

module _ (c k : ℕ) (l : List ℕ) where
  drop_one : (f : List ℕ) (fs : List (List ℕ)) → drop k (cut c l) ≡ f ∷ fs → drop (suc k) (cut c l) ≡ fs
  drop_one f fs e = ap (λ (j : ℕ). drop j (cut c l)) (sym (add-one k)) ∙ sym (drop-drop 1 k (cut c l)) ∙ ap (drop 1) e

  none_on : drop k (cut c l) ≡ [] → drop (suc k) (cut c l) ≡ []
  none_on e = ap (λ (j : ℕ). drop j (cut c l)) (sym (add-one k)) ∙ sym (drop-drop 1 k (cut c l)) ∙ ap (drop 1) e

  meets_next : Met c l k → Met c l (suc k)
  meets_next (inr p) = inr (none_on p.0, ap (λ (q : List ℕ). drop (suc (length (upto c q))) q) p.1)
  meets_next (inl p) =
      let b = behind c k l in
      let n = length (upto c b) in
      let z : n ≡ 0 + n = omega arith in
      ⊎_elim
      (λ (h : n < length b).
      let o : n + 1 ≡ suc n = omega arith in
      inl (drop_one _ _ (p ∙ walk_on c 0 b n z h) ∙ ap (λ (j : ℕ). cut c (drop j b)) o))
      (λ (h : length b ≤ n).
      let o : length b ≤ suc n = omega arith in
      inr (drop_one _ _ (p ∙ walk_end c 0 b n z h), drop_of_length-le b o))
      (lt_or_le n (length b))

meets : (c : ℕ) (l : List ℕ) (k : ℕ) → Met c l k
meets c l zero = inl refl
meets c l (suc k) = meets_next c k l (meets c l k)

-- the first field of a line
head_cut : (c : ℕ) (b : List ℕ) → get_or (cut c b) 0 [] ≡ upto c b
head_cut c b =
    let n = length (upto c b) in
    let z : n ≡ 0 + n = omega arith in
    let m : n - 0 ≡ n = omega arith in
    let t : take (n - 0) b ≡ upto c b = ap (λ (j : ℕ). take j b) m ∙ sym (upto_take c b) in
    ⊎_elim
    (λ (h : n < length b). ap (λ (q : List (List ℕ)). get_or q 0 []) (walk_on c 0 b n z h) ∙ t)
    (λ (h : length b ≤ n). ap (λ (q : List (List ℕ)). get_or q 0 []) (walk_end c 0 b n z h) ∙ t)
    (lt_or_le n (length b))

-- each field is what stands before the next separator
field_walk : (c : ℕ) (l : List ℕ) (k : ℕ) → get_or (cut c l) k [] ≡ upto c (behind c k l)
field_walk c l k =
    let z : k ≡ k + 0 = omega arith in
    ap (λ (j : ℕ). get_or (cut c l) j []) z
    ∙ sym (get_or-drop k (cut c l) 0 [])
    ∙ ⊎_elim
    (λ (p : drop k (cut c l) ≡ cut c (behind c k l)). ap (λ (q : List (List ℕ)). get_or q 0 []) p ∙ head_cut c (behind c k l))
    (λ (p : (drop k (cut c l) ≡ []) × (behind c k l ≡ [])).
    ap (λ (q : List (List ℕ)). get_or q 0 []) p.0 ∙ ap (upto c) (sym p.1))
    (meets c l k)

-- the part that is handed out as a field
module _ (l : List ℕ) (k a e : ℕ) (h : a ≤ length l) (m : drop a l ≡ behind 0x20 k l) (f : e ≡ a + length (upto 0x20 (drop a l))) where
  within : (a ≤ e) × (e ≤ length l)
  within = (omega arith, omega (arith, upto_short 0x20 (drop a l), length-drop a l))

  pub field_part : part_of l a e ≡ field_of l k
  unfolding field_of
  field_part =
      let n : e - a ≡ length (upto 0x20 (drop a l)) = omega arith in
      sym (part_there l a e within.0 within.1)
      ∙ ap (λ (j : ℕ). take j (drop a l)) n
      ∙ sym (upto_take 0x20 (drop a l))
      ∙ ap (upto 0x20) m
      ∙ sym (field_walk 0x20 l k)

  pub field_at : part_at l a e ≡ behind_at 0x20 k l
  field_at = part_at_inside l a e within.0 within.1 ∙ sym (behind_at_here 0x20 k l a h m)

-- looking a word up: it is the one at k, or one behind it
module _ (s : List ℕ) (ws : List (List ℕ)) (k : ℕ) (p : place_of s ws ≡ k + place_of s (drop k ws)) where
  pub word_here : k < length ws → same (get_or ws k []) s ≡ true → k ≡ place_of s ws
  word_here h e =
      let z : place_of s (drop k ws) ≡ 0 = ap (place_of s) (drop-cons ws k [] h) ∙ rw e in
      omega arith

  pub word_not : k < length ws → same (get_or ws k []) s ≡ false → place_of s ws ≡ k + 1 + place_of s (drop (k + 1) ws)
  word_not h e =
      let z : place_of s (drop k ws) ≡ suc (place_of s (drop (suc k) ws)) = ap (place_of s) (drop-cons ws k [] h) ∙ rw e in
      let o : place_of s (drop (suc k) ws) ≡ place_of s (drop (k + 1) ws) = ap (λ (j : ℕ). place_of s (drop j ws)) (sym (add-one k)) in
      omega arith

-- the fields are the parts of std's `split`
onto_on : (x : ℕ) (fs : List (List ℕ)) → onto_first x fs ≡ on_first x fs
onto_on x [] = refl
onto_on x (f ∷ fs) = refl

split_cut : (c : ℕ) (l : List ℕ) → slice_split (λ x. eqb x c) l ≡ cut c l
split_cut c [] = refl
split_cut c (x ∷ l) =
    ap (λ (q : List (List ℕ)). cond (eqb x c) ([] ∷ q) (onto_first x q)) (split_cut c l)
    ∙ ap (λ (q : List (List ℕ)). cond (eqb x c) ([] ∷ cut c l) q) (onto_on x (cut c l))

-- std's `==` of lists of bytes says the same as `same`
same_eq : (f s : List ℕ) → pointwise eqb f s ≡ same f s
same_eq [] [] = refl
same_eq [] (y ∷ s) = refl
same_eq (x ∷ f) [] = refl
same_eq (x ∷ f) (y ∷ s) = ap (λ (t : Bool). eqb x y && t) (same_eq f s)

-- what the comparison with a field told
pub word_found : (f w s : List ℕ) (t u : Bool) → f ≡ w → t ≡ pointwise eqb f s → t ≡ u → same w s ≡ u
word_found f w s t u e g h = ap (λ (q : List ℕ). same q s) (sym e) ∙ sym (g ∙ same_eq f s) ∙ h

-- a word stands where std's `position` finds it
place_position : (s : List ℕ) (ws : List (List ℕ)) → place_of s ws ≡ position_or_len (λ w. pointwise eqb w s) ws
place_position s ws = is_position_or_len (place_of s) (λ w. pointwise eqb w s) refl first ws
  where
    first : (w : List ℕ) (m : List (List ℕ)) → place_of s (w ∷ m) ≡ cond (pointwise eqb w s) 0 (1 + place_of s m)
    first w m = ap (λ (t : Bool). cond t 0 (suc (place_of s m))) (sym (same_eq w s)) ∙ by_test (pointwise eqb w s)
      where
        by_test : (t : Bool) → cond t 0 (suc (place_of s m)) ≡ cond t 0 (1 + place_of s m)
        by_test true = refl
        by_test false = omega arith

place_within : (s : List ℕ) (ws : List (List ℕ)) → place_of s ws ≤ length ws
place_within s [] = omega arith
place_within s (w ∷ ws) = by_test (same w s) (place_within s ws)
  where
    by_test : (t : Bool) → place_of s ws ≤ length ws → cond t 0 (suc (place_of s ws)) ≤ length (w ∷ ws)
    by_test true h = omega arith
    by_test false h = omega arith

-- and where it finds none, its place is how many words there are
word_or_all : (s : List ℕ) (ws : List (List ℕ)) → unwrap_or (position (λ w. pointwise eqb w s) ws) (length ws) ≡ place_of s ws
word_or_all s ws = rw (sym (place_position s ws)) (by_test (ltb (place_of s ws) (length ws)) refl)
  where
    by_test : (t : Bool) → ltb (place_of s ws) (length ws) ≡ t → unwrap_or (cond t (Some (place_of s ws)) None) (length ws) ≡ place_of s ws
    by_test true h = refl
    by_test false h = omega (arith, place_within s ws, ltb-false (place_of s ws) (length ws) h)

-- the same of what it found among the parts of std's `split`
pub word_place : (s l : List ℕ) (r : Option ℕ) → r ≡ position (λ w. pointwise eqb w s) (slice_split (λ x. eqb x 0x20) l)
    → unwrap_or r (length (cut 0x20 l)) ≡ place_of s (cut 0x20 l)
word_place s l r e =
    ap (λ (o : Option ℕ). unwrap_or o (length (cut 0x20 l))) (e ∙ ap (position (λ w. pointwise eqb w s)) (split_cut 0x20 l))
    ∙ word_or_all s (cut 0x20 l)
