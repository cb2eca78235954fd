-- The test of the outer bytes, one law for each way out of it, and what it leaves known.
use Prim.Native.Nat.{ℕ, ◌≤◌, ◌<◌}
use native.Mathlib.Omega.{arith}
use mathlib.Core.Bool.{true, false}
use mathlib.Core.List.{List, ◌++◌}
use mathlib.Core.Path.{◌≡◌, refl, sym}
use lib.ListN.{length, take}
use borrow.Author.Tests.{leb-true, le-leb, lt-leb}
use Rattle.refusal.specs.Order.{refuse, accept}
use Rattle.refusal.proofs.Order.{pass, need_no, need_inv}
use Rattle.octets.specs.Equal.{same}
use Rattle.octets.proofs.Equal.{same_true}
use Rattle.framing.specs.Outer.{outer, outer_of}

module _ (d : List ℕ) where
  pub outer_1 : length d < 4 → refuse 1 0 ≡ outer_of d
  unfolding outer_of
  outer_1 h = sym (need_no _ _ _ _ (lt-leb 4 (length d) h))

  pub outer_16 : 4 ≤ length d → same (take 4 d) outer ≡ false → refuse 16 0 ≡ outer_of d
  unfolding outer_of
  outer_16 h e = sym (pass _ _ _ _ (le-leb 4 (length d) h) (need_no _ _ _ _ e))

  pub outer_done : 4 ≤ length d → same (take 4 d) outer ≡ true → accept tt ≡ outer_of d
  unfolding outer_of
  outer_done h e = sym (pass _ _ _ _ (le-leb 4 (length d) h) (pass _ _ _ _ e refl))

  pub outer_inv : (u : Unit {0}) → outer_of d ≡ accept u → (4 ≤ length d) × (take 4 d ≡ outer)
  unfolding outer_of
  outer_inv u e =
      let t = need_inv _ _ _ _ e in
      (leb-true _ _ t.0, same_true (take 4 d) outer (need_inv _ _ _ _ t.1).0)

-- a packet behind the four bytes
pub outer_before : (l : List ℕ) → outer_of (outer ++ l) ≡ accept tt
outer_before l =
    let long : 4 ≤ length (outer ++ l) = omega arith in
    sym (outer_done (outer ++ l) long refl)
