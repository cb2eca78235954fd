-- Buffers of 64 bytes: what stands in front, and what putting bytes into them makes.
use Prim.Native.Nat.{ℕ, zero, suc, ◌+◌, ◌-◌, ◌≤◌}
use native.Mathlib.Omega.{arith}
use mathlib.Core.Bool.{Bool}
use mathlib.Core.Path.{◌≡◌, refl, sym, ◌∙◌, ap}
use mathlib.Core.List.{List, ◌∷◌, ◌++◌}
use lib.ListN.{length, take, replicate, length-append, length-replicate}
use lib.Seq.{take_at, take-append-add}
use Rattle.std.proofs.lemmas.List.{drop-replicate}
use Rattle.octets.specs.Place.{filled, pasted, begun}
use Rattle.octets.specs.Promise.{PutPromise}
use Rattle.octets.proofs.Filled.{put_filled, filled_long}
use Rattle.octets.proofs.Place.{put_done, begun_put}
use Rattle.running.specs.Running.{room}

pub length_room : (p : List ℕ) → length p ≤ 64 → length (room p) ≡ 64
unfolding filled
length_room p l = length-append p (replicate (64 - length p) 0) ∙ rw (length-replicate {A = ℕ} (64 - length p) 0) (omega arith)

take-replicate : (k n : ℕ) → k ≤ n → take k (replicate {A = ℕ} n 0) ≡ replicate {A = ℕ} k 0
take-replicate zero n l = refl
take-replicate (suc k) zero l = absurd (omega arith)
take-replicate (suc k) (suc n) l = ap (λ (t : List ℕ). 0 ∷ t) (take-replicate k n (omega arith))

-- the first n bytes of a buffer
pub take_room : (p : List ℕ) (n : ℕ) → length p ≤ n → n ≤ 64 → take n (room p) ≡ p ++ replicate (n - length p) 0
unfolding filled
take_room p n l m =
    let e : n ≡ length p + (n - length p) = omega arith in
    let f : n - length p ≤ 64 - length p = omega arith in
    ap (λ (k : ℕ). take k (p ++ replicate (64 - length p) 0)) e
    ∙ take-append-add p (replicate (64 - length p) 0) (n - length p)
    ∙ ap (λ (t : List ℕ). p ++ t) (take-replicate (n - length p) (64 - length p) f)

-- what was put in front comes out again
pub room_back : (p : List ℕ) → take (length p) (room p) ≡ p
unfolding filled
room_back p = take_at p (replicate (64 - length p) 0) (length p) refl

-- a full buffer has no zeros behind
pub room_full : (p : List ℕ) → length p ≡ 64 → room p ≡ p
room_full p e = filled_long 64 p (omega arith)

begun_zeros : (n : ℕ) (s : List ℕ) → begun s (replicate n 0) ≡ filled n s
unfolding begun filled
begun_zeros n s = ap (λ (t : List ℕ). s ++ t) (drop-replicate (length s) n 0)

-- two pieces put into zeros, one behind the other
pub fill_block_law : (w s x y : List ℕ) (a b : Bool) → length w + length s ≤ 64
    → PutPromise (replicate 64 0) 0 w a x → PutPromise x (length w) s b y → y ≡ room (w ++ s)
fill_block_law w s x y a b h p q =
    let e : x ≡ room w = put_filled 64 w a x p (omega arith) in
    let n : length x ≡ 64 = ap length e ∙ length_room w (omega arith) in
    put_done x (length w) s b y q (omega arith)
    ∙ ap (λ (t : List ℕ). pasted t (length w) s) (e ∙ sym (begun_zeros 64 w))
    ∙ begun_put w (replicate 64 0) s (length w) refl
    ∙ begun_zeros 64 (w ++ s)
