-- Laws of `tab`: bytes make bytes, and a list is the tab of its own elements.
use Prim.Native.Nat.{ℕ, zero, suc, ◌+◌, ◌<◌}
use mathlib.Core.Path.{◌≡◌, refl, sym, ◌∙◌, ap₂, subst}
use mathlib.Core.List.{List, [], ◌∷◌}
use native.Mathlib.Omega.{arith}
use native.Mathlib.Nat.{suc_inj, suc-ne-zero}
use lib.ListN.{length, get_or}
use denote.Param.Members.{Mut, Called}
use Rattle.std.specs.Array.{IsFromFnResult, IsFromFnResultFrom}
use Rattle.octets.specs.Bytes.{Bytes}
use Rattle.octets.specs.Tab.{tab}
use Rattle.octets.proofs.Bytes.{bytes_nil, bytes_cons}

-- what is made of bytes is bytes
pub bytes_tab : (n : ℕ) (f : ℕ → ℕ) → ((i : ℕ) → f i < 256) → Bytes (tab n f)
bytes_tab zero f h = bytes_nil
bytes_tab (suc n) f h = bytes_cons (f 0) (tab n (λ i. f (suc i))) (h 0) (bytes_tab n (λ i. f (suc i)) (λ i. h (suc i)))

-- a list whose elements are as the rule says is the rule's
pub tab_of : (s : List ℕ) (n : ℕ) (f : ℕ → ℕ) → length s ≡ n → ((i : ℕ) → i < n → get_or s i 0 ≡ f i) → s ≡ tab n f
tab_of [] zero f e h = refl
tab_of [] (suc n) f e h = absurd (suc-ne-zero n (sym e))
tab_of (x ∷ s) zero f e h = absurd (suc-ne-zero (length s) e)
tab_of (x ∷ s) (suc n) f e h =
    ap₂ ◌∷◌ (h 0 (omega arith)) (tab_of s n (λ i. f (suc i)) (suc_inj e) (λ i l. h (suc i) (omega arith)))

-- a list is the tab of its elements
pub tab_self : (s : List ℕ) (n : ℕ) → length s ≡ n → tab n (λ i. get_or s i 0) ≡ s
tab_self s n e = sym (tab_of s n (λ i. get_or s i 0) e (λ i h. refl))

-- an array that std makes by calls of f, each of which gives what the rule v says and leaves f as it is
module _ {F : Type 0} (g : Mut F (ℕ × Unit {0}) ℕ) (f : F) (v : ℕ → ℕ)
    (pure : (i y : ℕ) (q : F) → Called g f (i, tt) y q → (q ≡ f) × (y ≡ v i)) where
  made : (s : List ℕ) (a n : ℕ) (p : F) → p ≡ f → IsFromFnResultFrom g p s a n → (k : ℕ) → k < n → get_or s (a + k) 0 ≡ v (a + k)
  made s a zero p e h k l = absurd (omega arith)
  made s a (suc n) p e (q, y, at, called, rest) k l =
      let t = pure a y q (subst (λ (z : F). Called g z (a, tt) y q) e called) in
      elim k as (λ (j : ℕ). j < suc n → get_or s (a + j) 0 ≡ v (a + j)) [
        | zero ↦ λ _. let z : a + 0 ≡ a = omega arith in rw z (at.1 0 ∙ t.1)
        | suc j ↦ λ m.
            let z : a + suc j ≡ a + 1 + j = omega arith in
            rw z (made s (a + 1) n q t.0 rest j (omega arith))
      ] l

  pub tab_made : (s : List ℕ) (n : ℕ) → IsFromFnResult g f s n → s ≡ tab n v
  tab_made s n h =
      tab_of s n v h.long
      (λ i l. let z : 0 + i ≡ i = omega arith in let t = made s 0 n f refl h.each i l in rw z at t)
