-- Laws of numbers as bytes, at any width: each way undoes the other.
use Prim.Native.Nat.{ℕ, zero, suc, ◌+◌, ◌-◌, ◌*◌, ◌/◌, ◌%◌, ◌^◌, ◌<◌, ◌≤◌}
use native.Mathlib.Omega.{arith}
use mathlib.Core.List.{List, [], ◌∷◌, ◌++◌, append-nil, reverse}
use mathlib.Core.Logic.{⊎_elim}
use mathlib.Core.Path.{◌≡◌, refl, sym, ◌∙◌, ap, ap₂}
use lib.ListN.{length, get_or, set, take, drop_of_length-le, get_or-eq_default}
use lib.Seq.{drop-cons, append_snoc}
use Rattle.std.proofs.lemmas.List.{reverse-append, take_more_set}
use Rattle.std.specs.Int.{from_le_bytes, w16, w32}
use Rattle.octets.specs.Bytes.{Bytes}
use Rattle.octets.specs.Number.{le, unle, be, onto, unbe}
use Rattle.octets.specs.Place.{part, filled}
use Rattle.octets.proofs.Order.{lt_or_le}
use Rattle.octets.proofs.Bytes.{bytes_nil, bytes_cons, bytes_tail, bytes_append}

-- one byte more is written: those so far and those of what is left are the number's
pub le_turn : (w i n r : ℕ) (l : List ℕ) → i < length l → i < w → le w n ≡ take i l ++ le (w - i) r
    → le w n ≡ take (i + 1) (set l i (r % 256)) ++ le (w - (i + 1)) (r / 256)
le_turn w i n r l h g e =
    let f : w - i ≡ suc (w - (i + 1)) = omega arith in
    let m : List ℕ = le (w - (i + 1)) (r / 256) in
    e ∙ ap (λ (k : ℕ). take i l ++ le k r) f ∙ sym (append_snoc (take i l) (r % 256) m)
    ∙ ap (λ (k : List ℕ). k ++ m) (sym (take_more_set l i (r % 256) h))

-- the high byte first is the low byte first, read from the end
pub reverse-le : (w n : ℕ) → reverse (le w n) ≡ be w n
reverse-le zero n = refl
reverse-le (suc w) n =
    reverse-append ((n % 256) ∷ []) (le w (n / 256)) ∙ ap (λ (l : List ℕ). l ++ (n % 256) ∷ []) (reverse-le w (n / 256))

-- a number that fits into w bytes comes back
pub unle-le : (w n : ℕ) → n < 256 ^ w → unle (le w n) ≡ n
unle-le zero n h = omega arith
unle-le (suc w) n h =
    let k : n / 256 < 256 ^ w = omega arith in
    omega (arith, unle-le w (n / 256) k)

-- bytes come back
pub le-unle : (l : List ℕ) → Bytes l → le (length l) (unle l) ≡ l
le-unle [] h = refl
le-unle (b ∷ l) h =
    let s : b < 256 = h 0 in
    let e : (b + 256 * unle l) % 256 ≡ b = omega arith in
    let f : (b + 256 * unle l) / 256 ≡ unle l = omega arith in
    ap₂ ◌∷◌ e (ap (le (length l)) f ∙ le-unle l (bytes_tail b l h))

pub bytes_be : (w n : ℕ) → Bytes (be w n)
bytes_be zero n = bytes_nil
bytes_be (suc w) n = bytes_append (be w (n / 256)) _ (bytes_be w (n / 256)) (bytes_cons (n % 256) [] (omega arith) bytes_nil)

onto-snoc : (n : ℕ) (l : List ℕ) (b : ℕ) → onto n (l ++ (b ∷ [])) ≡ onto n l * 256 + b
onto-snoc n [] b = refl
onto-snoc n (c ∷ l) b = onto-snoc (n * 256 + c) l b

-- a number that fits into w bytes comes back
pub unbe-be : (w n : ℕ) → n < 256 ^ w → unbe (be w n) ≡ n
unbe-be zero n h = omega arith
unbe-be (suc w) n h =
    let k : n / 256 < 256 ^ w = omega arith in
    onto-snoc 0 (be w (n / 256)) (n % 256) ∙ omega (arith, unbe-be w (n / 256) k)

be-onto : (w n : ℕ) (l : List ℕ) → Bytes l → be (length l + w) (onto n l) ≡ be w n ++ l
be-onto w n [] h = let e : 0 + w ≡ w = omega arith in ap (λ (k : ℕ). be k n) e ∙ sym (append-nil (be w n))
be-onto w n (b ∷ l) h =
    let s : b < 256 = h 0 in
    let e : (n * 256 + b) % 256 ≡ b = omega arith in
    let f : (n * 256 + b) / 256 ≡ n = omega arith in
    let g : suc (length l) + w ≡ length l + suc w = omega arith in
    ap (λ (k : ℕ). be k (onto (n * 256 + b) l)) g
    ∙ be-onto (suc w) (n * 256 + b) l (bytes_tail b l h)
    ∙ ap₂ (λ (x y : ℕ). be w x ++ (y ∷ []) ++ l) f e
    ∙ append_snoc (be w n) b l

-- bytes come back
pub be-unbe : (l : List ℕ) → Bytes l → be (length l) (unbe l) ≡ l
be-unbe l h = let e : length l ≡ length l + 0 = omega arith in ap (λ (k : ℕ). be k (unbe l)) e ∙ be-onto 0 0 l h

-- the number of the w bytes from a + k on, byte by byte; past the end there are zeros
abbrev pub sum : ℕ → List ℕ → ℕ → ℕ → ℕ
sum zero l a k = 0
sum (suc w) l a k = get_or l (a + k) 0 + 256 * sum w l a (k + 1)

sum_past : (w : ℕ) (l : List ℕ) (a k : ℕ) → length l ≤ a + k → sum w l a k ≡ 0
sum_past zero l a k h = refl
sum_past (suc w) l a k h =
    let g : length l ≤ a + (k + 1) = omega arith in
    omega (arith, get_or-eq_default l 0 h, sum_past w l a (k + 1) g)

unle_from : (w : ℕ) (l : List ℕ) (a k : ℕ) → unle (part l (a + k) w) ≡ sum w l a k
unle_from zero l a k = refl
unle_from (suc w) l a k =
    ⊎_elim
    (λ (h : a + k < length l).
    let e : suc (a + k) ≡ a + (k + 1) = omega arith in
    ap (λ (m : List ℕ). unle (take (suc w) m)) (drop-cons l (a + k) 0 h)
    ∙ ap (λ (j : ℕ). get_or l (a + k) 0 + 256 * unle (part l j w)) e
    ∙ ap (λ (x : ℕ). get_or l (a + k) 0 + 256 * x) (unle_from w l a (k + 1)))
    (λ (h : length l ≤ a + k).
    ap (λ (m : List ℕ). unle (take (suc w) m)) (drop_of_length-le l h)
    ∙ sym (sum_past (suc w) l a k h))
    (lt_or_le (a + k) (length l))

-- a number in a list, read byte by byte
pub unle-part : (w : ℕ) (l : List ℕ) (a : ℕ) → unle (part l a w) ≡ sum w l a 0
unle-part w l a = let e : a ≡ a + 0 = omega arith in ap (λ (j : ℕ). unle (part l j w)) e ∙ unle_from w l a 0

-- what std reads from two and from four bytes, where zeros stand for those that are not there
pub unle_two : (l : List ℕ) → length l ≤ 2 → from_le_bytes w16 (filled 2 l) ≡ unle l
unfolding filled
unle_two [] h = refl
unle_two (a ∷ []) h = omega arith
unle_two (a ∷ b ∷ []) h = omega arith
unle_two (a ∷ b ∷ c ∷ l) h = absurd (omega arith)

pub unle_four : (l : List ℕ) → length l ≤ 4 → from_le_bytes w32 (filled 4 l) ≡ unle l
unfolding filled
unle_four [] h = refl
unle_four (a ∷ []) h = omega arith
unle_four (a ∷ b ∷ []) h = omega arith
unle_four (a ∷ b ∷ c ∷ []) h = omega arith
unle_four (a ∷ b ∷ c ∷ d ∷ []) h = omega arith
unle_four (a ∷ b ∷ c ∷ d ∷ e ∷ l) h = absurd (omega arith)
