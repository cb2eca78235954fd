-- One buffer of whole blocks gone over in two goes: it holds what one go leaves.
use Prim.Native.Nat.{ℕ, ◌-◌, ◌%◌, ◌≤◌}
use native.Mathlib.Omega.{arith}
use mathlib.Core.Path.{◌≡◌, sym, ◌∙◌, ap, ap₂}
use mathlib.Core.List.{List, ◌++◌, append-nil}
use lib.ListN.{length, take, drop, length-drop, take-append-drop, drop_of_length-le}
use lib.Seq.{length-take-le, take_at, drop_at}
use Rattle.octets.proofs.Place.{to_end}
use Rattle.std.specs.Prelude.{Result}
use Rattle.refusal.specs.declared.Refusal.{Refusal}
use Rattle.cbc.specs.Promise.{CbcPromise}
use Rattle.cbc.specs.Halves.{ByHalves}
use Rattle.cbc.proofs.Promise.{cbc_done}
use Rattle.cipher_vectors.specs.InTwo.{Went, Cut}

module _ (k : ℕ) (s : List ℕ) (h : Cut k s) where
  pub front_length : length (take k s) ≡ k
  front_length = length-take-le k s h.within

  pub front_whole : length (take k s) % 16 ≡ 0
  front_whole = ap (λ (n : ℕ). n % 16) front_length ∙ h.blocks

  back_whole : length (drop k s) % 16 ≡ 0
  back_whole = omega (arith, length-drop k s, h.blocks, h.within, h.whole)

-- behind a first go over the first k bytes, of which it left x: l is the buffer then
module _ (k : ℕ) (s x l : List ℕ) (h : Cut k s) (e : length x ≡ length (take k s)) (b : l ≡ x ++ drop k s) where
  x_length : length x ≡ k
  x_length = e ∙ front_length k s h

  -- what the second is lent
  back : take (length l - k) (drop k l) ≡ drop k s
  back = to_end (length l) k l (omega arith) ∙ ap (drop k) b ∙ drop_at x (drop k s) k x_length

  -- and the buffer after it
  both : (y : List ℕ) → take k l ++ (y ++ drop (length l - k) (drop k l)) ≡ x ++ y
  both y =
      let over : length (drop k l) ≤ length l - k = omega (arith, length-drop k l) in
      ap₂ (λ (a z : List ℕ). a ++ (y ++ z)) (ap (take k) b ∙ take_at x (drop k s) k x_length) (drop_of_length-le (drop k l) over)
      ∙ ap (λ (z : List ℕ). x ++ z) (append-nil y)

-- of whatever keeps the law by halves
pub in_two : (f after : List ℕ → List ℕ → List ℕ) (iv s x next y l : List ℕ) (k : ℕ) (r : Result Unit Refusal) → ByHalves f after iv → Cut k s
    → Went f after iv (take k s) next x → length x ≡ length (take k s) → l ≡ x ++ drop k s
    → CbcPromise (take (length l - k) (drop k l)) (f next (take (length l - k) (drop k l))) r y
    → take k l ++ (y ++ drop (length l - k) (drop k l)) ≡ f iv s
in_two f after iv s x next y l k r law h p e b q =
    let m : take (length l - k) (drop k l) ≡ drop k s = back k s x l h e b in
    both k s x l h e b y
    ∙ ap₂ ◌++◌ p.made
    (cbc_done _ _ r y (ap (λ (z : List ℕ). length z % 16) m ∙ back_whole k s h) q ∙ (λ i. f (p.handed i) (m i)))
    ∙ sym (law (take k s) (drop k s) (front_whole k s h) (back_whole k s h))
    ∙ ap (f iv) (take-append-drop k s)
