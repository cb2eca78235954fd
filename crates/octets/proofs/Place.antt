-- Laws of places: parts of a list, and what stands where after bytes were put at a place or from the start on.
use Prim.Native.Nat.{ℕ, suc, ◌+◌, ◌-◌, ◌<◌, ◌≤◌}
use native.Mathlib.Omega.{arith}
use mathlib.Core.Bool.{Bool, true, false}
use mathlib.Core.List.{List, [], ◌∷◌, ◌++◌, append_assoc}
use mathlib.Core.Path.{◌≡◌, refl, sym, ◌∙◌, ap, ap₂}
use lib.ListN.{length, take, drop, set, get_or, length-append, length-drop, take-append-drop}
use lib.Seq.{take_at, take_all, length-take-le, drop_at, drop-drop, drop-cons, set_at, set_split, append_snoc}
use borrow.Author.Tests.{le-leb, lt-leb}
use borrow.Rule.Slice.PartMut.{put_mid}
use Rattle.octets.specs.Place.{part, pasted, begun, placed}
use Rattle.octets.specs.Promise.{PutPromise}

-- a list of no length has nothing
pub none_left : (l : List ℕ) → length l ≡ 0 → [] ≡ l
none_left [] h = refl
none_left (x ∷ l) h = absurd (omega arith)

-- what fits is pasted
pub placed-fits : (d : List ℕ) (a : ℕ) (s : List ℕ) → a + length s ≤ length d → placed d a s ≡ pasted d a s
unfolding placed
placed-fits d a s h = rw (le-leb (a + length s) (length d) h)

-- what does not fit changes nothing
pub placed-not : (d : List ℕ) (a : ℕ) (s : List ℕ) → length d < a + length s → placed d a s ≡ d
unfolding placed
placed-not d a s h = rw (lt-leb (a + length s) (length d) h)

-- a part written over
pub put_mid-pasted : (d : List ℕ) (a k : ℕ) (s x : List ℕ) → k ≡ length s → x ≡ s → put_mid a k d x ≡ pasted d a s
unfolding pasted
put_mid-pasted d a k s x e f =
    ap₂ (λ (j : ℕ) (y : List ℕ). put_mid a j d y) e f ∙ ap (λ (t : List ℕ). take a d ++ (s ++ t)) (drop-drop (length s) a d)

pub length-pasted : (d : List ℕ) (a : ℕ) (s : List ℕ) → a + length s ≤ length d → length (pasted d a s) ≡ length d
unfolding pasted
length-pasted d a s h = simp (length-append, length-drop) (omega (arith, length-take-le a d (omega arith)))

-- before the place nothing changes
pub take-pasted : (d : List ℕ) (a : ℕ) (s : List ℕ) → a ≤ length d → take a (pasted d a s) ≡ take a d
unfolding pasted
take-pasted d a s h = take_at (take a d) _ a (length-take-le a d h)

-- what stands up to the end of what was put
pub take_put : (d : List ℕ) (a m : ℕ) (s : List ℕ) → length s ≡ m → a ≤ length d → take (a + m) (pasted d a s) ≡ take a d ++ s
unfolding pasted
take_put d a m s e h =
    ap (take (a + m)) (sym (append_assoc (take a d) s (drop (a + length s) d)))
    ∙ take_at (take a d ++ s) _ (a + m) (length-append (take a d) s ∙ ap₂ ◌+◌ (length-take-le a d h) e)

-- at the place stands what was put
pub part-pasted : (d : List ℕ) (a : ℕ) (s : List ℕ) → a ≤ length d → part (pasted d a s) a (length s) ≡ s
unfolding pasted
part-pasted d a s h =
    ap (take (length s)) (drop_at (take a d) _ a (length-take-le a d h)) ∙ take_at s _ (length s) refl

-- past it nothing changes
pub drop-pasted : (d : List ℕ) (a : ℕ) (s : List ℕ) → a ≤ length d → drop (a + length s) (pasted d a s) ≡ drop (a + length s) d
unfolding pasted
drop-pasted d a s h =
    sym (drop-drop (length s) a _)
    ∙ ap (drop (length s)) (drop_at (take a d) _ a (length-take-le a d h))
    ∙ drop_at s _ (length s) refl

-- nothing pasted is nothing changed
pub pasted_none : (d : List ℕ) (a : ℕ) → pasted d a [] ≡ d
unfolding pasted
pasted_none d a = let e : a + 0 ≡ a = omega arith in ap (λ (k : ℕ). take a d ++ drop k d) e ∙ take-append-drop a d

-- one byte more
pub pasted-more : (d x : List ℕ) (a n v : ℕ) → length x ≡ n → a + n < length d
    → set (pasted d a x) (a + n) v ≡ pasted d a (x ++ (v ∷ []))
unfolding pasted
pasted-more d x a n v e h =
    let y : ℕ = get_or d (a + n) 0 in
    let t : List ℕ = drop (suc (a + n)) d in
    let f : a + length x ≡ a + n = omega arith in
    let l : length (take a d ++ x) ≡ a + n = omega (arith, length-append (take a d) x, length-take-le a d (omega arith)) in
    let g : suc (a + n) ≡ a + length (x ++ (v ∷ [])) = omega (arith, length-append x (v ∷ [])) in
    ap (λ (q : List ℕ). set (take a d ++ (x ++ q)) (a + n) v) (ap (λ (k : ℕ). drop k d) f ∙ drop-cons d (a + n) 0 h)
    ∙ ap (λ (q : List ℕ). set q (a + n) v) (sym (append_assoc (take a d) x (y ∷ t)))
    ∙ set_at (take a d ++ x) y t v (a + n) l
    ∙ append_assoc (take a d) x (v ∷ t)
    ∙ ap (λ (q : List ℕ). take a d ++ q) (sym (append_snoc x v t))
    ∙ ap (λ (k : ℕ). take a d ++ ((x ++ (v ∷ [])) ++ drop k d)) g

-- a part that goes to the list's end or past it
pub to_end : (n a : ℕ) (l : List ℕ) → length l ≤ n → part l a (n - a) ≡ drop a l
to_end n a l h = take_all (n - a) (drop a l) (omega (arith, length-drop a l))

-- a part of what stands from n on
pub part-drop : (l : List ℕ) (n a k : ℕ) → part (drop n l) a k ≡ part l (n + a) k
part-drop l n a k = ap (take k) (drop-drop a n l)

-- a part of what stands behind n elements
pub part-behind : (p l : List ℕ) (n a k : ℕ) → length p ≡ n → part (p ++ l) (n + a) k ≡ part l a k
part-behind p l n a k e = sym (part-drop (p ++ l) n a k) ∙ ap (λ (m : List ℕ). part m a k) (drop_at p l n e)

-- what stands from a place on after a store there
pub drop-set : (l : List ℕ) (i v : ℕ) → i < length l → drop i (set l i v) ≡ v ∷ drop (suc i) l
drop-set l i v h = ap (drop i) (set_split l i v h) ∙ drop_at (take i l) _ i (length-take-le i l (omega arith))

-- nothing put is nothing changed
pub begun_none : (d : List ℕ) → begun [] d ≡ d
unfolding begun
begun_none d = refl

-- the first put
pub begun_first : (x d : List ℕ) → pasted d 0 x ≡ begun x d
unfolding pasted begun
begun_first x d = let e : 0 + length x ≡ length x = omega arith in ap (λ (k : ℕ). x ++ drop k d) e

-- the next put, where the last one ended
pub begun_put : (x d s : List ℕ) (a : ℕ) → length x ≡ a → pasted (begun x d) a s ≡ begun (x ++ s) d
unfolding pasted begun
begun_put x d s a e =
    let r : List ℕ = drop (length x) d in
    let n : length x + length s ≡ length (x ++ s) = sym (length-append x s) in
    ap₂ (λ (p q : List ℕ). p ++ (s ++ q))
    (take_at x r a e)
    (sym (drop-drop (length s) a (x ++ r))
    ∙ ap (drop (length s)) (drop_at x r a e)
    ∙ drop-drop (length s) (length x) d
    ∙ ap (λ (k : ℕ). drop k d) n)
    ∙ sym (append_assoc x s _)

-- what was put so far
pub begun_take : (x d : List ℕ) (k : ℕ) → length x ≡ k → take k (begun x d) ≡ x
unfolding begun
begun_take x d k e = take_at x _ k e

-- what was not reached
pub begun_drop : (x d : List ℕ) (k : ℕ) → length x ≡ k → drop k (begun x d) ≡ drop k d
unfolding begun
begun_drop x d k e = drop_at x _ k e ∙ ap (λ (j : ℕ). drop j d) e

pub length_begun : (x d : List ℕ) → length x ≤ length d → length (begun x d) ≡ length d
unfolding begun
length_begun x d h = simp (length-append, length-drop) (omega arith)

-- a put that is refused
pub put_no : (d : List ℕ) (a : ℕ) (s : List ℕ) → length d < a + length s → PutPromise d a s false d
put_no d a s h = record { answer = sym (lt-leb (a + length s) (length d) h); buffer = sym (placed-not d a s h) }

-- a put that is done
pub put_yes : (d : List ℕ) (a : ℕ) (s x : List ℕ) → a + length s ≤ length d → x ≡ pasted d a s → PutPromise d a s true x
put_yes d a s x h e = record { answer = sym (le-leb (a + length s) (length d) h); buffer = e ∙ sym (placed-fits d a s h) }

-- what a caller with room enough learns
pub put_done : (d : List ℕ) (a : ℕ) (s : List ℕ) (r : Bool) (x : List ℕ) → PutPromise d a s r x → a + length s ≤ length d
    → x ≡ pasted d a s
put_done d a s r x p h = p.buffer ∙ placed-fits d a s h

-- a promise kept for some bytes is kept for bytes that are equal
pub put_of : (d : List ℕ) (a : ℕ) (s t : List ℕ) (r : Bool) (x : List ℕ) → s ≡ t → PutPromise d a s r x → PutPromise d a t r x
put_of d a s t r x e p = rw e at p
