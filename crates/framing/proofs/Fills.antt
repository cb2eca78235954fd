-- What the writer fills in: the pad bytes and their count, the integrity pad and its trailer, and puts that follow one another.
use Prim.Native.Nat.{ℕ, zero, suc, ◌+◌, ◌-◌, ◌%◌, ◌≤◌, ◌<◌}
use native.Mathlib.Omega.{arith}
use native.Mathlib.Numerals.{add-one}
use mathlib.Core.Bool.{Bool}
use mathlib.Core.List.{List, [], ◌∷◌, ◌++◌, append_assoc}
use mathlib.Core.Path.{◌≡◌, refl, sym, ◌∙◌, ap, ap₂}
use lib.ListN.{length, take, drop, set, replicate, length-append, length-set}
use lib.Seq.{ext_get_or, get_or-take, length-take-le, take-suc-set, take_at, drop_at, drop-drop}
use Rattle.octets.specs.Place.{part, pasted}
use Rattle.octets.specs.Promise.{PutPromise}
use Rattle.octets.proofs.Place.{take-pasted, drop-pasted, part-pasted, length-pasted, put_done}
use Rattle.framing.specs.Packet.{counting, plain_of}
use Rattle.framing.proofs.Complete.{length-counting, length-plain}
use Rattle.framing.proofs.Pads.{at-counting}
use Rattle.framing.proofs.InPlace.{put_in_place}

-- the first p of 1, 2, .. n
pub take_counting : (n p : ℕ) → p ≤ n → take p (counting n) ≡ counting p
take_counting n p h =
    let size : length (take p (counting n)) ≡ p = length-take-le p (counting n) (omega (arith, length-counting n)) in
    ext_get_or 0 (take p (counting n)) (counting p) (size ∙ sym (length-counting p))
    (λ i g. let k : i < p = omega arith in let j : i < n = omega arith in get_or-take p (counting n) i 0 k ∙ at-counting n i j ∙ sym (at-counting p i k))

-- sixteen bytes 1, 2, .. 16 with p in the place of one
pub pad_bytes : (p : ℕ) → p < 16 → take (p + 1) (set (counting 16) p p) ≡ counting p ++ (p ∷ [])
pad_bytes p h = rw add-one (take-suc-set (counting 16) p p h) ∙ ap (λ (l : List ℕ). l ++ (p ∷ [])) (take_counting 16 p (omega arith))

-- five bytes FF with q and 07 in the places of two
pub trailer_bytes : (q : ℕ) → q < 4 → take (q + 2) (set (set (replicate 5 0xFF) q q) (q + 1) 0x07) ≡ replicate q 0xFF ++ (q ∷ 0x07 ∷ [])
trailer_bytes zero h = refl
trailer_bytes (suc zero) h = refl
trailer_bytes (suc (suc zero)) h = refl
trailer_bytes (suc (suc (suc zero))) h = refl
trailer_bytes (suc (suc (suc (suc q)))) h = absurd (omega arith)

-- a put that follows a put
pub pasted_next : (d x y : List ℕ) (a b : ℕ) → a + length x ≡ b → a ≤ length d → pasted (pasted d a x) b y ≡ pasted d a (x ++ y)
unfolding pasted
pasted_next d x y a b e h =
    let front : length (take a d ++ x) ≡ b = length-append (take a d) x ∙ ap (λ (k : ℕ). k + length x) (length-take-le a d h) ∙ e in
    let whole : take a d ++ (x ++ drop (a + length x) d) ≡ (take a d ++ x) ++ drop (a + length x) d
    = sym (append_assoc (take a d) x (drop (a + length x) d)) in
    let index : a + length x + length y ≡ a + length (x ++ y) = ap (λ (k : ℕ). k) (omega (arith, length-append x y)) in
    ap₂ (λ (u v : List ℕ). u ++ (y ++ v))
    (ap (take b) whole ∙ take_at (take a d ++ x) (drop (a + length x) d) b front)
    (sym (drop-drop (length y) b _) ∙ ap (drop (length y)) (ap (drop b) whole ∙ drop_at (take a d ++ x) (drop (a + length x) d) b front)
    ∙ drop-drop (length y) (a + length x) d ∙ ap (λ (k : ℕ). drop k d) index)
    ∙ append_assoc (take a d) x _ ∙ ap (λ (l : List ℕ). take a d ++ l) (sym (append_assoc x y _))

pasted_is : (d : List ℕ) (a : ℕ) (s : List ℕ) → pasted d a s ≡ take a d ++ (s ++ drop (a + length s) d)
unfolding pasted
pasted_is d a s = refl

-- a put over a put of as many
pub pasted_twice : (d x y : List ℕ) (a : ℕ) → length x ≡ length y → a ≤ length d → pasted (pasted d a x) a y ≡ pasted d a y
pasted_twice d x y a e h =
    pasted_is (pasted d a x) a y
    ∙ ap₂ (λ (u v : List ℕ). u ++ (y ++ v)) (take-pasted d a x h)
    (ap (λ (k : ℕ). drop (a + k) (pasted d a x)) (sym e) ∙ drop-pasted d a x h ∙ ap (λ (k : ℕ). drop (a + k) d) e)
    ∙ sym (pasted_is d a y)

-- the pad and the trailer, as the code puts them
pub pad_long : (p : ℕ) → length (set (counting 16) p p) ≡ 16
pad_long p = length-set (counting 16) p p

pub pad_put : (d x : List ℕ) (at p : ℕ) (r : Bool) → p < 16 → at + p + 1 ≤ length d → PutPromise d at (take (p + 1) (set (counting 16) p p)) r x
    → x ≡ pasted d at (counting p ++ (p ∷ []))
pad_put d x at p r h g q =
    let size : length (take (p + 1) (set (counting 16) p p)) ≡ p + 1 = length-take-le (p + 1) (set (counting 16) p p) (omega (arith, pad_long p)) in
    put_done d at _ r x q (omega arith) ∙ ap (pasted d at) (pad_bytes p h)

pub next_long : (q : ℕ) → length (set (set (replicate 5 0xFF) q q) (q + 1) 0x07) ≡ 5
next_long q = length-set (set (replicate 5 0xFF) q q) (q + 1) 0x07 ∙ length-set (replicate 5 0xFF) q q

pub next_put : (d x : List ℕ) (at q : ℕ) (r : Bool) → q < 4 → at + q + 2 ≤ length d
    → PutPromise d at (take (q + 2) (set (set (replicate 5 0xFF) q q) (q + 1) 0x07)) r x
    → x ≡ pasted d at (replicate q 0xFF ++ (q ∷ 0x07 ∷ []))
next_put d x at q r h g p =
    let size : length (take (q + 2) (set (set (replicate 5 0xFF) q q) (q + 1) 0x07)) ≡ q + 2 = length-take-le (q + 2) _ (omega (arith, next_long q)) in
    put_done d at _ r x p (omega arith) ∙ ap (pasted d at) (trailer_bytes q h)

-- an encrypted body: what is put, and what then stands there; the cipher is any that keeps the length of whole blocks
module _ (enc : List ℕ → List ℕ → List ℕ → List ℕ) (same_size : (k iv x : List ℕ) → length x % 16 ≡ 0 → length (enc k iv x) ≡ length x)
    (d iv payload d1 d2 d3 y key K : List ℕ) (p : ℕ) (r1 r2 : Bool) (hi : length iv ≡ 16) (room : 28 + length payload + p + 1 ≤ length d)
    (whole : length (plain_of payload p) % 16 ≡ 0)
    (e1 : PutPromise d 12 iv r1 d1) (e2 : PutPromise d1 28 payload r2 d2) (e3 : d3 ≡ pasted d2 (28 + length payload) (counting p ++ (p ∷ []))) where
  D : List ℕ
  D = pasted d 12 iv

  long_D : length D ≡ length d
  unfolding D
  long_D = length-pasted d 12 iv (omega arith)

  third : d3 ≡ pasted D 28 (plain_of payload p)
  unfolding D plain_of
  third =
      let first : d1 ≡ pasted d 12 iv = put_done d 12 iv r1 d1 e1 (omega arith) in
      let size : length d1 ≡ length d = ap length first ∙ long_D in
      let second : d2 ≡ pasted (pasted d 12 iv) 28 payload
      = put_done d1 28 payload r2 d2 e2 (omega arith) ∙ ap (λ (x : List ℕ). pasted x 28 payload) first in
      e3 ∙ ap (λ (x : List ℕ). pasted x (28 + length payload) (counting p ++ (p ∷ []))) second
      ∙ pasted_next (pasted d 12 iv) payload (counting p ++ (p ∷ [])) 28 (28 + length payload) refl (omega (arith, long_D))

  pub aes_written : y ≡ enc key iv (take (28 + length payload + p + 1 - 28) (drop 28 d3)) → key ≡ K
      → take 28 d3 ++ (y ++ drop (28 + length payload + p + 1 - 28) (drop 28 d3)) ≡ pasted d 12 (iv ++ enc K iv (plain_of payload p))
  unfolding D
  aes_written e hk =
      let x : List ℕ = plain_of payload p in
      let E : List ℕ = enc K iv x in
      let n : ℕ = 28 + length payload + p + 1 - 28 in
      let size : length x ≡ n = length-plain payload p ∙ omega arith in
      let sizeE : length E ≡ length x = same_size K iv x whole in
      let stands : part d3 28 n ≡ x = ap₂ (λ (l : List ℕ) (k : ℕ). part l 28 k) third (sym size) ∙ part-pasted D 28 x (omega (arith, long_D)) in
      put_in_place d3 y E 28 n (e ∙ (λ i. enc (hk i) iv (stands i))) (sizeE ∙ size)
      ∙ ap (λ (l : List ℕ). pasted l 28 E) third
      ∙ pasted_twice D x E 28 (sym sizeE) (omega (arith, long_D))
      ∙ pasted_next d iv E 12 28 (omega arith) (omega arith)
