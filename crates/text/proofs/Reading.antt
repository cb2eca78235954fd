-- Laws of reading numbers and bytes: the turns of each loop, and the ways out of reading a number.
use Prim.Native.Nat.{ℕ, zero, suc, ◌+◌, ◌*◌, ◌/◌, ◌%◌, ◌^◌, ◌<◌, ◌≤◌}
use native.Mathlib.Omega.{arith}
use native.Mathlib.Nat.{le-mul_of_pos_right, mul-le-mul_right, mul_assoc, pow-succ'}
use native.Mathlib.Numerals.{add-one}
use mathlib.Core.Bool.{Bool, true, false, ◌&&◌, cond, and-false}
use mathlib.Core.List.{List, [], ◌∷◌, ◌++◌, append_assoc}
use Rattle.std.specs.Prelude.{Option, Some, None}
use mathlib.Core.Path.{◌≡◌, refl, sym, ◌∙◌, ap, ap₂}
use lib.Dec.{leb, ltb}
use lib.ListN.{length, get_or, take, drop, set, drop_of_length-le}
use lib.Seq.{drop-cons, take-suc, length-take-le}
use borrow.Author.Tests.{lt-ltb, le-ltb, le-leb, lt-leb, eq-eqb, ne_eqb, leb-true, ltb-true}
use Rattle.octets.specs.Place.{pasted}
use Rattle.text.specs.Digits.{worth, digits, value, pairs}
use Rattle.text.specs.Promise.{numeral, number_in, word_in, hexed}
use Rattle.octets.proofs.Place.{pasted-more}

-- more digits make no number less
value_least : (b v : ℕ) (s : List ℕ) → 0 < b → v ≤ value b v s
value_least b v [] h = omega arith
value_least b v (c ∷ s) h = omega (arith, le-mul_of_pos_right v h, value_least b (v * b + worth c) s h)

-- what is left to read after the number v
unfoldable pub left : ℕ → ℕ → ℕ → List ℕ → Option ℕ
left b most v l = cond (digits b l && leb (value b v l) most) (Some (value b v l)) None

pub number_none : (b most : ℕ) (s : List ℕ) → length s ≡ 0 → number_in b most s ≡ None
unfolding number_in numeral
number_none b most [] e = refl
number_none b most (c ∷ s) e = absurd (omega arith)

pub number_some : (b most : ℕ) (s : List ℕ) → (length s ≡ 0 → ⊥) → number_in b most s ≡ left b most 0 s
unfolding number_in numeral left
number_some b most [] n = absurd (n refl)
number_some b most (c ∷ s) n =
    ap (λ (t : Bool). cond (t && digits b (c ∷ s) && leb (value b 0 (c ∷ s)) most) (Some (value b 0 (c ∷ s))) None)
    (lt-ltb 0 (length (c ∷ s)) (omega arith))

-- a character that is no digit
left_none : (b most v c : ℕ) (l : List ℕ) → b ≤ worth c → left b most v (c ∷ l) ≡ None
unfolding left
left_none b most v c l h = rw (le-ltb (worth c) b h)

-- a number that is too large, whatever follows
left_over : (b most v c : ℕ) (l : List ℕ) → 0 < b → most < v * b + worth c → left b most v (c ∷ l) ≡ None
unfolding left
left_over b most v c l g h =
    let w : ℕ = value b (v * b + worth c) l in
    let k : most < w = omega (arith, value_least b (v * b + worth c) l g) in
    ap (λ (t : Bool). cond ((ltb (worth c) b && digits b l) && t) (Some w) None) (lt-leb w most k)
    ∙ ap (λ (t : Bool). cond t (Some w) None) (and-false (ltb (worth c) b && digits b l))

left_on : (b most v c : ℕ) (l : List ℕ) → worth c < b → left b most v (c ∷ l) ≡ left b most (v * b + worth c) l
unfolding left
left_on b most v c l h = rw (lt-ltb (worth c) b h)

left_end : (b most v : ℕ) → v ≤ most → left b most v [] ≡ Some v
unfolding left
left_end b most v h = rw (le-leb v most h)

module _ (b most v i : ℕ) (s : List ℕ) (r : Option ℕ) (e : left b most v (drop i s) ≡ r) where
  here : i < length s → left b most v (get_or s i 0 ∷ drop (suc i) s) ≡ r
  here h = ap (left b most v) (sym (drop-cons s i 0 h)) ∙ e

  -- the ways out of a turn, and on
  pub stop_none : i < length s → b ≤ worth (get_or s i 0) → None ≡ r
  stop_none h k = sym (left_none b most v (get_or s i 0) (drop (suc i) s) k) ∙ here h

  pub stop_over : i < length s → 0 < b → most < v * b + worth (get_or s i 0) → None ≡ r
  stop_over h g k = sym (left_over b most v (get_or s i 0) (drop (suc i) s) g k) ∙ here h

  pub go_on : i < length s → worth (get_or s i 0) < b → left b most (v * b + worth (get_or s i 0)) (drop (i + 1) s) ≡ r
  go_on h k =
      ap (λ (j : ℕ). left b most (v * b + worth (get_or s i 0)) (drop j s)) (add-one i)
      ∙ sym (left_on b most v (get_or s i 0) (drop (suc i) s) k)
      ∙ here h

  pub at_end : length s ≤ i → v ≤ most → Some v ≡ r
  at_end h k = sym (left_end b most v k) ∙ ap (left b most v) (sym (drop_of_length-le s h)) ∙ e

-- a number that was read is within its bound
pub number_most : (b most v : ℕ) (s : List ℕ) → Some v ≡ number_in b most s → v ≤ most
unfolding number_in
number_most b most v s e = by_tests (numeral b s) (leb (value b 0 s) most) refl e
  where
    by_tests : (t u : Bool) → leb (value b 0 s) most ≡ u → Some v ≡ cond (t && u) (Some (value b 0 s)) None → v ≤ most
    by_tests true true f g = let h : v ≡ value b 0 s = cc in omega (arith, leb-true (value b 0 s) most f)
    by_tests true false f g = let z : ◌≡◌ {A = ℕ} 0 1 = cc in absurd (omega arith)
    by_tests false u f g = let z : ◌≡◌ {A = ℕ} 0 1 = cc in absurd (omega arith)

-- digits: the first is one, and so are the others
pub digits_both : (b c : ℕ) (s : List ℕ) → digits b (c ∷ s) ≡ true → (worth c < b) × (digits b s ≡ true)
digits_both b c s e = by_test (ltb (worth c) b) refl e
  where
    by_test : (t : Bool) → ltb (worth c) b ≡ t → (t && digits b s) ≡ true → (worth c < b) × (digits b s ≡ true)
    by_test true f g = (ltb-true (worth c) b f, g)
    by_test false f g = let z : ◌≡◌ {A = ℕ} 0 1 = cc in absurd (omega arith)

-- each character of digits is one
pub digits_at : (b i : ℕ) (s : List ℕ) → digits b s ≡ true → i < length s → worth (get_or s i 0) < b
digits_at b i [] e h = absurd (omega arith)
digits_at b zero (c ∷ s) e h = (digits_both b c s e).0
digits_at b (suc i) (c ∷ s) e h = digits_at b i s (digits_both b c s e).1 (omega arith)

-- pairs are half as many as their characters
pub length_pairs : (s : List ℕ) → length (pairs s) ≡ length s / 2
length_pairs [] = refl
length_pairs (h ∷ []) = refl
length_pairs (h ∷ l ∷ s) = omega (arith, length_pairs s)

pairs-snoc : (x : List ℕ) (h l : ℕ) → length x % 2 ≡ 0 → pairs (x ++ (h ∷ l ∷ [])) ≡ pairs x ++ ((16 * worth h + worth l) ∷ [])
pairs-snoc [] h l e = refl
pairs-snoc (a ∷ []) h l e = absurd (omega arith)
pairs-snoc (a ∷ b ∷ x) h l e = ap (λ (q : List ℕ). (16 * worth a + worth b) ∷ q) (pairs-snoc x h l (omega arith))

take_two : (s : List ℕ) (j : ℕ) → suc j < length s → take (suc (suc j)) s ≡ take j s ++ (get_or s j 0 ∷ get_or s (suc j) 0 ∷ [])
take_two s j h =
    take-suc s (suc j) 0 h
    ∙ ap (λ (q : List ℕ). q ++ (get_or s (suc j) 0 ∷ [])) (take-suc s j 0 (omega arith))
    ∙ append_assoc (take j s) _ _

-- one turn of joining pairs
pub pair_turn : (x d s : List ℕ) (a i v : ℕ) → x ≡ pasted d a (pairs (take (2 * i) s)) → i < length s / 2 → a + length (pairs s) ≤ length d
    → v ≡ 16 * worth (get_or s (2 * i) 0) + worth (get_or s (2 * i + 1) 0)
    → set x (a + i) v ≡ pasted d a (pairs (take (2 * (i + 1)) s))
pair_turn x d s a i v e h k f =
    let t : List ℕ = take (2 * i) s in
    let m : length t ≡ 2 * i = length-take-le (2 * i) s (omega arith) in
    let n : length (pairs t) ≡ i = omega (arith, length_pairs t) in
    let o : suc (suc (2 * i)) ≡ 2 * (i + 1) = omega arith in
    let p : length t % 2 ≡ 0 = omega arith in
    let q : a + i < length d = omega (arith, length_pairs s) in
    ap (λ (u : List ℕ). set u (a + i) v) e
    ∙ pasted-more d (pairs t) a i v n q
    ∙ ap (λ (u : ℕ). pasted d a (pairs t ++ (u ∷ []))) (f ∙ ap (λ (j : ℕ). 16 * worth (get_or s (2 * i) 0) + worth (get_or s j 0)) (add-one (2 * i)))
    ∙ ap (pasted d a) (sym (pairs-snoc t _ _ p) ∙ ap pairs (sym (take_two s (2 * i) (omega arith)) ∙ ap (λ (j : ℕ). take j s) o))

-- whether the characters are bytes in hex
pub hexed_yes : (s : List ℕ) → length s % 2 ≡ 0 → digits 16 s ≡ true → hexed s ≡ true
unfolding hexed
hexed_yes s e f = ap₂ ◌&&◌ (eq-eqb (length s % 2) 0 e) f

-- digits in hex say a number below the power of sixteen that has as many zeros
value_below : (v : ℕ) (s : List ℕ) → digits 16 s ≡ true → value 16 v s < (v + 1) * 16 ^ length s
value_below v [] e = omega arith
value_below v (c ∷ s) e =
    let d = digits_both 16 c s e in
    let w : ℕ = v * 16 + worth c in
    let p : ℕ = 16 ^ length s in
    let h : w + 1 ≤ (v + 1) * 16 = omega (arith, d.0) in
    omega (arith, value_below w s d.1, mul-le-mul_right p h, mul_assoc (v + 1) 16 p, ap (λ (k : ℕ). (v + 1) * k) (pow-succ' 16 (length s)))

-- eight characters: a number exactly where all are digits
word_number : (s : List ℕ) → length s ≡ 8 → number_in 16 0xffff_ffff s ≡ cond (digits 16 s) (Some (value 16 0 s)) None
unfolding number_in numeral
word_number s e = by_test (digits 16 s) refl
  where
    big : digits 16 s ≡ true → value 16 0 s ≤ 0xffff_ffff
    big f = let p : 16 ^ length s ≡ 16 ^ 8 = ap (λ (k : ℕ). 16 ^ k) e in omega (arith, value_below 0 s f)

    by_test : (t : Bool) → digits 16 s ≡ t
        → cond (ltb 0 (length s) && t && leb (value 16 0 s) 0xffff_ffff) (Some (value 16 0 s)) None
        ≡ cond t (Some (value 16 0 s)) None
    by_test true f =
        let h : 0 < length s = omega arith in
        rw (lt-ltb 0 (length s) h, le-leb (value 16 0 s) 0xffff_ffff (big f))
    by_test false f = let h : 0 < length s = omega arith in rw (lt-ltb 0 (length s) h)

pub word_not : (s : List ℕ) → (length s ≡ 8 → ⊥) → None ≡ word_in s
unfolding word_in
word_not s n = rw (ne_eqb (length s) 8 n)

pub word_value : (s : List ℕ) (v : ℕ) → length s ≡ 8 → Some v ≡ number_in 16 0xffff_ffff s → Some v ≡ word_in s
unfolding word_in
word_value s v e f =
    by_test (digits 16 s) (f ∙ word_number s e)
    ∙ ap (λ (t : Bool). cond (t && digits 16 s) (Some (value 16 0 s)) None) (sym (eq-eqb (length s) 8 e))
  where
    by_test : (t : Bool) → Some v ≡ cond t (Some (value 16 0 s)) None
        → Some v ≡ cond t (Some (value 16 0 s)) None
    by_test true g = let h : v ≡ value 16 0 s = cc in ap Some h
    by_test false g = let z : ◌≡◌ {A = ℕ} 0 1 = cc in absurd (omega arith)

pub word_bad : (s : List ℕ) → length s ≡ 8 → None ≡ number_in 16 0xffff_ffff s → None ≡ word_in s
unfolding word_in
word_bad s e f =
    by_test (digits 16 s) (f ∙ word_number s e)
    ∙ ap (λ (t : Bool). cond (t && digits 16 s) (Some (value 16 0 s)) None) (sym (eq-eqb (length s) 8 e))
  where
    by_test : (t : Bool) → None ≡ cond t (Some (value 16 0 s)) None
        → None ≡ cond t (Some (value 16 0 s)) None
    by_test true g = let z : ◌≡◌ {A = ℕ} 0 1 = cc in absurd (omega arith)
    by_test false g = refl
