-- Laws of a list with zeros behind it, and of what is put at the start of zeros.
use Prim.Native.Nat.{ℕ, ◌+◌, ◌-◌, ◌≤◌, min}
use native.Mathlib.Omega.{arith}
use mathlib.Core.Bool.{Bool}
use mathlib.Core.List.{List, [], ◌++◌, append-nil}
use mathlib.Core.Path.{◌≡◌, sym, ◌∙◌, ap, ap₂}
use lib.ListN.{length, take, drop, replicate, length-drop, length-replicate, drop_of_length-le}
use lib.Seq.{length-take-le, take_all}
use Rattle.std.proofs.lemmas.List.{drop-replicate, drop_min, length-take, take_min, take_rest}
use Rattle.octets.specs.Place.{part, filled, begun}
use Rattle.octets.specs.Promise.{PutPromise}
use Rattle.octets.proofs.Place.{put_done, begun_first}

-- a list that is long enough stays
pub filled_long : (n : ℕ) (l : List ℕ) → n ≤ length l → filled n l ≡ l
unfolding filled
filled_long n l h = let e : n - length l ≡ 0 = omega arith in ap (λ (k : ℕ). l ++ replicate k 0) e ∙ append-nil l

-- so does a part that the list's end does not cut short
pub filled-part : (n : ℕ) (l : List ℕ) (a : ℕ) → a + n ≤ length l → filled n (part l a n) ≡ part l a n
filled-part n l a h =
    let e : length (part l a n) ≡ n = length-take-le n (drop a l) (omega (arith, length-drop a l)) in
    filled_long n (part l a n) (omega arith)

-- past the end there are zeros alone
pub filled_past : (n : ℕ) (l : List ℕ) (a : ℕ) → length l ≤ a → replicate n 0 ≡ filled n (part l a n)
unfolding filled
filled_past n l a h =
    let e : n - 0 ≡ n = omega arith in
    sym
    (ap (λ (m : List ℕ). filled n (take n m)) (drop_of_length-le l h)
    ∙ ap (filled n) (take_all n [] (omega arith))
    ∙ ap (λ (k : ℕ). replicate k 0) e)

-- what is cut out of a list and has zeros behind it
pub cut_filled : (n k m a : ℕ) (l x : List ℕ) → k ≡ min a (length l) → m ≡ min n (length (take (length l - k) (drop k l)))
    → x ≡ take m (take (length l - k) (drop k l)) → x ++ drop m (replicate {A = ℕ} n 0) ≡ filled n (part l a n)
unfolding filled
cut_filled n k m a l x e f g =
    let q : List ℕ = take (length l - k) (drop k l) in
    let p : q ≡ drop a l = take_rest l k ∙ ap (λ (j : ℕ). drop j l) e ∙ drop_min a l in
    let y : x ≡ part l a n = g ∙ ap (λ (j : ℕ). take j q) f ∙ take_min n q ∙ ap (take n) p in
    let z : n - m ≡ n - length (part l a n) = ap (λ (j : ℕ). n - j) (f ∙ ap (λ (j : List ℕ). min n (length j)) p ∙ sym (length-take n (drop a l))) in
    ap₂ ◌++◌ y (drop-replicate m n 0 ∙ ap (λ (j : ℕ). replicate {A = ℕ} j 0) z)

-- what is cut out whole
pub cut_whole : (n k a : ℕ) (l : List ℕ) → k ≡ min a (length l) → (x : List ℕ) → n ≤ length l - k → x ≡ take n (take (length l - k) (drop k l))
    → x ≡ filled n (part l a n)
cut_whole n k a l e x h g =
    let p : take (length l - k) (drop k l) ≡ drop a l = take_rest l k ∙ ap (λ (j : ℕ). drop j l) e ∙ drop_min a l in
    let y : n ≤ length (drop a l) = omega (arith, e, length-drop a l) in
    g ∙ ap (take n) p ∙ sym (filled_long n (part l a n) (omega (arith, length-take-le n (drop a l) y)))

-- what is put at the start of zeros
pub put_filled : (n : ℕ) (s : List ℕ) (r : Bool) (x : List ℕ) → PutPromise (replicate n 0) 0 s r x → length s ≤ n → x ≡ filled n s
unfolding begun filled
put_filled n s r x p h =
    put_done (replicate n 0) 0 s r x p (omega (arith, length-replicate {A = ℕ} n 0))
    ∙ begun_first s (replicate n 0)
    ∙ ap (λ (m : List ℕ). s ++ m) (drop-replicate (length s) n 0)
