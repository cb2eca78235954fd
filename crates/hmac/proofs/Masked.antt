-- A block xored byte by byte in its place.
use Prim.Native.Nat.{ℕ, suc, ◌+◌, ◌<◌}
use native.Mathlib.Omega.{arith}
use native.Mathlib.Numerals.{add-one}
use mathlib.Core.Path.{◌≡◌, sym, ◌∙◌, ap, ap₂}
use mathlib.Core.List.{List, [], ◌∷◌, ◌++◌, append-nil}
use lib.ListN.{length, get_or, take, drop, set}
use lib.Seq.{take_all, take-suc, drop-cons, drop-length, get_or_at, set_at, append_snoc, length-take-le}
use lib.Bits.{bit_xor}
use Rattle.hmac.specs.Hmac.{xored}
use Rattle.hmac.proofs.Keyed.{length-xored, xored-snoc}

-- a turn of the loop that xors a block
pub mask_turn : (b d : List ℕ) (x i : ℕ) → i < length d → b ≡ xored x (take i d) ++ drop i d
    → set b i (bit_xor (get_or b i 0) x) ≡ xored x (take (i + 1) d) ++ drop (i + 1) d
mask_turn b d x i l e =
    let f : List ℕ = xored x (take i d) in
    let y : ℕ = get_or d i 0 in
    let nf : length f ≡ i = length-xored x (take i d) ∙ length-take-le i d (omega arith) in
    let g : b ≡ f ++ (y ∷ drop (suc i) d) = e ∙ ap (λ (t : List ℕ). f ++ t) (drop-cons d i 0 l) in
    let v : get_or b i 0 ≡ y = ap (λ (t : List ℕ). get_or t i 0) g ∙ get_or_at f y (drop (suc i) d) 0 i nf in
    let w : take (i + 1) d ≡ take i d ++ (y ∷ []) = rw add-one (take-suc d i 0 l) in
    ap₂ (λ (t : List ℕ) (u : ℕ). set t i (bit_xor u x)) g v ∙ set_at f y (drop (suc i) d) (bit_xor y x) i nf
    ∙ sym (append_snoc f (bit_xor y x) (drop (suc i) d))
    ∙ ap₂ (λ (t : List ℕ) (k : ℕ). t ++ drop k d) (sym (xored-snoc x y (take i d)) ∙ ap (xored x) (sym w)) (sym (add-one i))

-- the loop's end
pub mask_end : (b d : List ℕ) (x : ℕ) → length d ≡ 64 → b ≡ xored x (take 64 d) ++ drop 64 d → b ≡ xored x d
mask_end b d x n e =
    let t : take 64 d ≡ d = take_all 64 d (omega arith) in
    let u : drop 64 d ≡ [] = ap (λ (i : ℕ). drop i d) (sym n) ∙ drop-length d in
    e ∙ ap₂ (λ (p q : List ℕ). xored x p ++ q) t u ∙ append-nil (xored x d)
