-- Laws of reading what a field says.
use Prim.Native.Nat.{ℕ}
use native.Mathlib.Omega.{arith}
use mathlib.Core.Bool.{Bool, true, false, ◌&&◌, cond}
use mathlib.Core.List.{List}
use mathlib.Core.Path.{◌≡◌, refl, sym, ◌∙◌, ap}
use lib.Dec.{eqb}
use lib.ListN.{length, replicate}
use borrow.Author.Tests.{eq-eqb}
use Rattle.std.specs.Prelude.{Option, Some, None, Result, Ok, Err}
use Rattle.octets.specs.Place.{fits, placed}
use Rattle.octets.specs.Equal.{same}
use Rattle.octets.proofs.Equal.{same_true}
use Rattle.octets.proofs.Filled.{filled_long, put_filled}
use Rattle.text.specs.Digits.{pairs}
use Rattle.text.specs.Promise.{hexed, UnhexPromise}
use Rattle.text.specs.declared.read.UnhexError.{UnhexError}
use Rattle.text.specs.declared.read.UnhexError.TheVariants.{Bad, NoRoom}
use Rattle.cases.specs.Values.{dash, says, ExactPromise}
use Rattle.octets.proofs.Order.{cond_true}

-- `-` is no hex
pub dash_odd : (s : List ℕ) → same s dash ≡ true → hexed s ≡ false
unfolding hexed
dash_odd s e = rw (same_true s dash e)

-- a promise kept for a text is kept for one that is equal
pub exact_along : (n : ℕ) (s t : List ℕ) (r : Option (List ℕ)) → s ≡ t → ExactPromise n s r → ExactPromise n t r
exact_along n s t r e p = rw e at p

-- exactly n bytes: where `unhex` tells n, it filled n zeros with them
module _ (n : ℕ) (s : List ℕ) (u : Result ℕ UnhexError) (x : List ℕ) (p : UnhexPromise (replicate n 0) 0 s u x) where
  pub exact_yes : u ≡ Ok n → ExactPromise n s (Some x)
  exact_yes e = by_hex (hexed s) (fits (replicate n 0) 0 (length (pairs s))) refl (sym e ∙ p.answer)
    where
      by_hex : (t f : Bool) → hexed s ≡ t → ◌≡◌ {A = Result ℕ UnhexError} (Ok n) (cond t (cond f (Ok (length (pairs s))) (Err NoRoom)) (Err Bad)) → ExactPromise n s (Some x)
      by_hex true true h q =
          let m : length (pairs s) ≡ n = cc in
          let g : says n s ≡ true = ap (λ (b : Bool). b && eqb (length (pairs s)) n) h ∙ eq-eqb (length (pairs s)) n m in
          let y = placed (replicate n 0) 0 (pairs s) in
          let f = put_filled n (pairs s) (fits (replicate n 0) 0 (length (pairs s))) y (record { answer = refl; buffer = refl }) (omega arith) in
          let w : y ≡ pairs s = f ∙ filled_long n (pairs s) (omega arith) in
          record { answer = ap Some (p.buffer ∙ cond_true (hexed s) y (replicate n 0) h ∙ w) ∙ sym (cond_true (says n s) (Some (pairs s)) None g) }
      by_hex true false h q = let z : ◌≡◌ {A = ℕ} 0 1 = cc in absurd (omega arith)
      by_hex false f h q = let z : ◌≡◌ {A = ℕ} 0 1 = cc in absurd (omega arith)
