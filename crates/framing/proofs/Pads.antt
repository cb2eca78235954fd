-- The pad bytes 1, 2, .. p, looked at one by one.
use Prim.Native.Nat.{ℕ, zero, suc, ◌+◌, ◌≤◌, ◌<◌}
use native.Mathlib.Omega.{arith}
use mathlib.Core.Bool.{true, false}
use mathlib.Core.List.{List, [], ◌∷◌}
use mathlib.Core.Logic.{⊎_elim}
use mathlib.Core.Path.{◌≡◌, sym, ◌∙◌, ap}
use lib.ListN.{length, get_or, drop, length-drop, get_or-append}
use lib.Seq.{ext_get_or, get_or-take, get_or-drop, get_or_at, length-take-le}
use Rattle.octets.specs.Place.{part}
use Rattle.octets.specs.Equal.{same}
use Rattle.octets.proofs.Equal.{same_self, same_true}
use Rattle.octets.proofs.Order.{lt_or_le}
use Rattle.framing.specs.Packet.{counting}
use Rattle.framing.proofs.Complete.{length-counting}
use Rattle.octets.proofs.Order.{by_cases}

pub at-counting : (p i : ℕ) → i < p → get_or (counting p) i 0 ≡ i + 1
at-counting zero i h = absurd (omega arith)
at-counting (suc p) i h =
    ⊎_elim
    (λ (g : i < p). get_or-append (counting p) (suc p ∷ []) 0 i (omega (arith, length-counting p)) ∙ at-counting p i g)
    (λ (g : p ≤ i).
    let e : i ≡ p = omega arith in
    ap (λ (j : ℕ). get_or (counting (suc p)) j 0) e ∙ get_or_at (counting p) (suc p) [] 0 p (length-counting p) ∙ omega arith)
    (lt_or_le i p)

module _ (x : List ℕ) (a p : ℕ) (h : a + p ≤ length x) where
  at_part : (i : ℕ) → i < p → get_or (part x a p) i 0 ≡ get_or x (a + i) 0
  at_part i g = get_or-take p (drop a x) i 0 g ∙ get_or-drop a x i 0

  -- all as they ought to be
  pub pads_right : ((k : ℕ) → k < p → get_or x (a + k) 0 ≡ k + 1) → true ≡ same (part x a p) (counting p)
  pads_right f =
      let size : length (part x a p) ≡ p = length-take-le p (drop a x) (omega (arith, length-drop a x)) in
      let e : part x a p ≡ counting p
      = ext_get_or 0 (part x a p) (counting p) (size ∙ sym (length-counting p))
      (λ i g. let k : i < p = omega arith in at_part i k ∙ f i k ∙ sym (at-counting p i k)) in
      sym (ap (λ (l : List ℕ). same l (counting p)) e ∙ same_self (counting p))

  -- one is not
  pub pads_wrong : (i : ℕ) → i < p → (get_or x (a + i) 0 ≡ i + 1 → ⊥) → false ≡ same (part x a p) (counting p)
  pads_wrong i g n =
      by_cases (same (part x a p) (counting p))
      (λ e. absurd (n (sym (at_part i g) ∙ ap (λ (l : List ℕ). get_or l i 0) (same_true (part x a p) (counting p) e) ∙ at-counting p i g)))
      (λ e. sym e)
