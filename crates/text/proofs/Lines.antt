-- Laws of a line that is written piece by piece into a buffer with room for it.
use Prim.Native.Nat.{ℕ, ◌+◌, ◌≤◌}
use native.Mathlib.Omega.{arith}
use mathlib.Core.Bool.{Bool, true, false, cond}
use mathlib.Core.List.{List, [], ◌++◌}
use mathlib.Core.Path.{◌≡◌, refl, sym, ◌∙◌, ap}
use lib.ListN.{length, length-append}
use borrow.Author.Tests.{le-leb}
use Rattle.octets.specs.Place.{begun, pasted}
use Rattle.octets.proofs.Place.{begun_none, begun_put, length_begun}
use Rattle.text.specs.Line.{Begins}
use Rattle.text.specs.Promise.{takes, moved, AddPromise}
use Rattle.text.specs.declared.write.Cursor.{Cursor}

abbrev at : ℕ → Cursor
at k = record { at = k; full = false }

-- x, of at most n characters, was written into d so far: the cursor, and what the buffer holds
pub record Wrote (n : ℕ) (x d : List ℕ) (c : Cursor) (e : List ℕ) : Type 0 where
  pub small : length x ≤ n
  pub cursor : c ≡ at (length x)
  pub buffer : e ≡ begun x d

pub wrote_none : (d : List ℕ) → Wrote 0 [] d (at 0) d
wrote_none d = record { small = omega arith; cursor = refl; buffer = sym (begun_none d) }

goes_in : (x d s : List ℕ) → length x + length s ≤ length d → takes (at (length x)) (length (begun x d)) (length s) ≡ true
unfolding takes
goes_in x d s h = le-leb (length x + length s) (length (begun x d)) (omega (arith, length_begun x d (omega arith)))

-- one piece more, of at most m characters
pub wrote_more : (n m : ℕ) (x d s : List ℕ) (c r : Cursor) (e f : List ℕ)
    → Wrote n x d c e → AddPromise e c s r f → length s ≤ m → n + m ≤ length d → Wrote (n + m) (x ++ s) d r f
wrote_more n m x d s c r e f w p h k =
    let l : length x + length s ≤ length d = omega (arith, w.small) in
    let q : AddPromise (begun x d) (at (length x)) s r f = rw (w.cursor, w.buffer) at p in
    let g = goes_in x d s l in
    let o : length x + length s ≡ length (x ++ s) = sym (length-append x s) in
    record {
      small = omega (arith, w.small, length-append x s);
      cursor = q.cursor ∙ ap (λ (t : Bool). moved t (at (length x)) (length s)) g ∙ ap at o;
      buffer = q.buffer ∙ ap (λ (t : Bool). cond t (pasted (begun x d) (length x) s) (begun x d)) g ∙ begun_put x d s (length x) refl;
    }

-- the whole line
pub wrote_all : (n : ℕ) (x d : List ℕ) (c : Cursor) (e : List ℕ) → Wrote n x d c e → n ≤ length d → Begins d x c.at e
wrote_all n x d c e w h =
    let k : length x ≤ length d = omega (arith, w.small) in
    let a : c.at ≡ length x = ap (λ (z : Cursor). z.at) w.cursor in
    record { count = a; within = omega (arith, ap length w.buffer, length_begun x d k); buffer = w.buffer }
