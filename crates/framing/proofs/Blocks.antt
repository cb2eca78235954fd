-- The tail of the plain text, put together from blocks.
use Prim.Native.Nat.{ℕ, ◌+◌, ◌≤◌}
use native.Mathlib.Omega.{arith}
use mathlib.Core.Bool.{Bool}
use mathlib.Core.List.{List, ◌++◌, append_assoc}
use mathlib.Core.Path.{◌≡◌, sym, ◌∙◌, ap, ap₂}
use lib.ListN.{length, take, drop, length-drop, length-append}
use lib.Seq.{length-take-le, take-add, drop-drop, take_at}
use Rattle.octets.specs.Place.{part, pasted}
use Rattle.octets.specs.Promise.{PutPromise}
use Rattle.octets.proofs.Place.{put_done}

-- a part of as many bytes as asked for
pub length_part : (l : List ℕ) (a n : ℕ) → a + n ≤ length l → length (part l a n) ≡ n
length_part l a n h = length-take-le n (drop a l) (omega (arith, length-drop a l))

-- one block more of a tail
pub tail_turn : (d x b y : List ℕ) (a i : ℕ) (r : Bool) → take i d ≡ part x a i → b ≡ part x (a + i) 16 → length b ≡ 16 → i + 16 ≤ length d
    → PutPromise d i b r y
    → take (i + 16) y ≡ part x a (i + 16)
unfolding pasted
tail_turn d x b y a i r e f n h p =
    let fits : i + length b ≤ length d = omega arith in
    let front : length (take i d) ≡ i = length-take-le i d (omega arith) in
    let all : length (take i d ++ b) ≡ i + 16 = length-append (take i d) b ∙ ap₂ (λ (j k : ℕ). j + k) front n in
    ap (take (i + 16)) (put_done d i b r y p fits ∙ sym (append_assoc (take i d) b (drop (i + length b) d)))
    ∙ take_at (take i d ++ b) (drop (i + length b) d) (i + 16) all
    ∙ ap₂ (λ (j k : List ℕ). j ++ k) e (f ∙ ap (take 16) (sym (drop-drop i a x)))
    ∙ sym (take-add i 16 (drop a x))
