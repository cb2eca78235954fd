-- The body, one law for each way out of its stages: the premises are the tests as the code makes them.
use Prim.Native.Nat.{ℕ, zero, suc, ◌+◌, ◌-◌, ◌%◌, ◌≤◌, ◌<◌}
use native.Mathlib.Omega.{arith}
use mathlib.Core.Bool.{Bool, true, false, not}
use mathlib.Core.List.{List, [], ◌∷◌}
use mathlib.Core.Path.{◌≡◌, refl, sym, ◌∙◌, ap, ap₂}
use lib.ListN.{length, get_or, take, drop}
use lib.Seq.{length-take-le, take-take, drop-drop, get_or-take, get_or-drop}
use borrow.Author.Tests.{le-leb, lt-leb, eq-eqb, ne_eqb}
use Rattle.refusal.specs.Order.{Res, refuse, accept}
use Rattle.refusal.proofs.Order.{pass, need_no, then_refuse, then_accept}
use Rattle.octets.specs.Place.{part}
use Rattle.octets.specs.Equal.{same}
use Rattle.framing.specs.Suite.{Suite}
use Rattle.framing.specs.Packet.{counting}
use Rattle.framing.specs.Read.{body_length, unpadded, decrypted, payload_in, body_in}
use Rattle.framing.specs.Told.{counted}
use Rattle.octets.proofs.Order.{cond_true, cond_false}

-- a part of what a list begins with, and a part of a part
part-take : (b p t : ℕ) (y : List ℕ) → b + p ≤ t → part (take t y) b p ≡ part y b p
part-take zero p t y h = take-take p t y (omega arith)
part-take (suc b) p zero y h = absurd (omega arith)
part-take (suc b) p (suc t) [] h = refl
part-take (suc b) p (suc t) (x ∷ y) h = part-take b p t y (omega arith)

pub part-part : (x z : List ℕ) (a b p t : ℕ) → b + p ≤ t → take t z ≡ part x a t → part z b p ≡ part x (a + b) p
part-part x z a b p t h e =
    sym (part-take b p t z h) ∙ ap (λ (l : List ℕ). part l b p) e ∙ part-take b p t (drop a x) h ∙ ap (take p) (drop-drop b a x)

-- the last byte, from the last block
pub last_byte : (x z : List ℕ) (n : ℕ) → 16 ≤ n → z ≡ part x (n - 16) 16 → get_or z 15 0 ≡ get_or x (n - 1) 0
last_byte x z n h e =
    let at : n - 16 + 15 ≡ n - 1 = omega arith in
    ap (λ (l : List ℕ). get_or l 15 0) e ∙ get_or-take 16 (drop (n - 16) x) 15 0 (omega arith) ∙ get_or-drop (n - 16) x 15 0 ∙ ap (λ (k : ℕ). get_or x k 0) at

-- refusals and answers by their length
pub counted_no : (r : Res (List ℕ)) (n v : ℕ) → r ≡ refuse n v → refuse n v ≡ counted r
unfolding counted
counted_no r n v e = sym (then_refuse r _ n v e)

pub counted_yes : (r : Res (List ℕ)) (x : List ℕ) (n : ℕ) → r ≡ accept x → length x ≡ n → accept n ≡ counted r
unfolding counted
counted_yes r x n e h = sym (then_accept r _ x e ∙ ap accept h)

module _ (x : List ℕ) (n p : ℕ) (size : length x ≡ n) (some : 1 ≤ n) (ep : p ≡ get_or x (n - 1) 0) where
  count : p ≡ get_or x (length x - 1) 0
  count = ep ∙ ap (λ (k : ℕ). get_or x (k - 1) 0) (sym size)

  pub unpad_10 : n ≤ p → refuse 10 0 ≡ counted (unpadded x)
  unfolding unpadded
  unpad_10 h =
      let many : length x - 1 < get_or x (length x - 1) 0 = omega (arith, count) in
      counted_no (unpadded x) 10 0 (need_no _ _ _ _ (lt-leb _ _ many))

  module _ (h : p < n) where
    few : get_or x (length x - 1) 0 ≤ length x - 1
    few = omega (arith, count)

    front : n - 1 - p ≡ length x - 1 - get_or x (length x - 1) 0
    front = omega (arith, count)

    tested : (b : Bool) → b ≡ same (part x (n - 1 - p) p) (counting p)
        → same (part x (length x - 1 - get_or x (length x - 1) 0) (get_or x (length x - 1) 0)) (counting (get_or x (length x - 1) 0)) ≡ b
    tested b e = sym (e ∙ ap₂ (λ (i j : ℕ). same (part x i j) (counting j)) front count)

    pub unpad_11 : false ≡ same (part x (n - 1 - p) p) (counting p) → refuse 11 0 ≡ counted (unpadded x)
    unfolding unpadded
    unpad_11 e = counted_no (unpadded x) 11 0 (pass _ _ _ _ (le-leb _ _ few) (need_no _ _ _ _ (tested false e)))

    pub unpad_done : true ≡ same (part x (n - 1 - p) p) (counting p) → accept (n - 1 - p) ≡ counted (unpadded x)
    unfolding unpadded
    unpad_done e =
        counted_yes (unpadded x) (take (length x - 1 - get_or x (length x - 1) 0) x) (n - 1 - p)
        (pass _ _ _ _ (le-leb _ _ few) (pass _ _ _ _ (tested true e) refl))
        (length-take-le _ x (omega arith) ∙ sym front)

module _ (S : Suite) (b : List ℕ) where
  pub decrypted_1 : length b < 16 → refuse 1 0 ≡ counted (decrypted S b)
  unfolding decrypted
  decrypted_1 h = counted_no (decrypted S b) 1 0 (need_no _ _ _ _ (lt-leb _ _ h))

  module _ (h : 16 ≤ length b) where
    pub decrypted_12 : ((length b - 16) % 16 ≡ 0 → ⊥) → refuse 12 0 ≡ counted (decrypted S b)
    unfolding decrypted
    decrypted_12 e = counted_no (decrypted S b) 12 0 (pass _ _ _ _ (le-leb _ _ h) (need_no _ _ _ _ (ne_eqb _ _ e)))

    module _ (e : (length b - 16) % 16 ≡ 0) where
      pub decrypted_10 : length b - 16 ≡ 0 → refuse 10 0 ≡ counted (decrypted S b)
      unfolding decrypted
      decrypted_10 f = counted_no (decrypted S b) 10 0 (pass _ _ _ _ (le-leb _ _ h) (pass _ _ _ _ (eq-eqb _ _ e) (need_no _ _ _ _ (ap not (eq-eqb _ _ f)))))

      pub decrypted_on : (length b - 16 ≡ 0 → ⊥) → (r : Res ℕ) → r ≡ counted (unpadded (S.dec (take 16 b) (drop 16 b))) → r ≡ counted (decrypted S b)
      unfolding decrypted
      decrypted_on f r g = g ∙ ap counted (sym (pass _ _ _ _ (le-leb _ _ h) (pass _ _ _ _ (eq-eqb _ _ e) (pass _ _ _ _ (ap not (ne_eqb _ _ f)) refl))))

-- with AES, and without
module _ (S : Suite) (b : List ℕ) where
  pub payload_bare : S.aes ≡ false → accept (length b) ≡ counted (payload_in S b)
  unfolding payload_in
  payload_bare e = counted_yes _ b (length b) (cond_false S.aes (decrypted S b) (accept b) e) refl

  pub payload_aes : S.aes ≡ true → (r : Res ℕ) → r ≡ counted (decrypted S b) → r ≡ counted (payload_in S b)
  unfolding payload_in
  payload_aes e r f = f ∙ ap counted (sym (cond_true S.aes (decrypted S b) (accept b) e))

-- header and body
module _ (S : Suite) (l : List ℕ) where
  pub body_1 : length l < 12 → refuse 1 0 ≡ counted (body_in S l)
  unfolding body_in
  body_1 h = counted_no (body_in S l) 1 0 (need_no _ _ _ _ (lt-leb _ _ h))

  module _ (h : 12 ≤ length l) where
    pub body_9 : (body_length l ≡ length l - 12 → ⊥) → refuse 9 0 ≡ counted (body_in S l)
    unfolding body_in
    body_9 e = counted_no (body_in S l) 9 0 (pass _ _ _ _ (le-leb _ _ h) (need_no _ _ _ _ (ne_eqb _ _ e)))

    pub body_on : body_length l ≡ length l - 12 → (r : Res ℕ) → r ≡ counted (payload_in S (drop 12 l)) → r ≡ counted (body_in S l)
    unfolding body_in
    body_on e r f = f ∙ ap counted (sym (pass _ _ _ _ (le-leb _ _ h) (pass _ _ _ _ (eq-eqb _ _ e) refl)))
