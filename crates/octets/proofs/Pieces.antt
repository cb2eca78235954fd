-- Pieces that are put one after another from a buffer's start on.
use Prim.Native.Nat.{ℕ, ◌+◌, ◌≤◌}
use native.Mathlib.Omega.{arith}
use mathlib.Core.Bool.{Bool}
use mathlib.Core.List.{List, ◌++◌}
use mathlib.Core.Path.{◌≡◌, ◌∙◌, ap}
use lib.ListN.{length, length-append}
use Rattle.octets.specs.Place.{pasted, begun}
use Rattle.octets.specs.Promise.{PutPromise}
use Rattle.octets.proofs.Place.{put_done, begun_first, begun_put, length_begun}

-- the first piece
pub put_first : (d s : List ℕ) (r : Bool) (x : List ℕ) → PutPromise d 0 s r x → length s ≤ length d → x ≡ begun s d
put_first d s r x p h = put_done d 0 s r x p (omega arith) ∙ begun_first s d

-- the next piece, where the last one ended
pub put_next : (w d s y : List ℕ) (a : ℕ) (r : Bool) (x : List ℕ) → y ≡ begun w d → length w ≡ a → a + length s ≤ length d
    → PutPromise y a s r x → x ≡ begun (w ++ s) d
put_next w d s y a r x e f h p =
    let g : length w ≤ length d = omega arith in
    let k : length y ≡ length d = ap length e ∙ length_begun w d g in
    put_done y a s r x p (omega arith) ∙ ap (λ (z : List ℕ). pasted z a s) e ∙ begun_put w d s a f

-- four pieces, one after another
pub four_pieces : (d w x y z : List ℕ) (a b c : ℕ) (r₁ r₂ r₃ r₄ : Bool) (d₁ d₂ d₃ d₄ : List ℕ)
    → length w ≡ a → length w + length x ≡ b → length w + length x + length y ≡ c → c + length z ≤ length d
    → PutPromise d 0 w r₁ d₁ → PutPromise d₁ a x r₂ d₂ → PutPromise d₂ b y r₃ d₃ → PutPromise d₃ c z r₄ d₄
    → d₄ ≡ begun (w ++ x ++ y ++ z) d
four_pieces d w x y z a b c r₁ r₂ r₃ r₄ d₁ d₂ d₃ d₄ e f g h p q r s =
    let m : length (w ++ x) ≡ b = length-append w x ∙ f in
    let n : length (w ++ x ++ y) ≡ c = simp length-append (omega arith) in
    let s₁ = put_first d w r₁ d₁ p (omega arith) in
    let s₂ = put_next w d x d₁ a r₂ d₂ s₁ e (omega arith) q in
    let s₃ = put_next (w ++ x) d y d₂ b r₃ d₃ s₂ m (omega arith) r in
    put_next (w ++ x ++ y) d z d₃ c r₄ d₄ s₃ n h s
