-- A packet opened in its own buffer: what it holds then, and that only an accepted one is opened.
use Prim.Native.Nat.{ℕ, ◌+◌, ◌-◌, ◌%◌, ◌≤◌, ◌<◌}
use native.Mathlib.Omega.{arith}
use mathlib.Core.Bool.{Bool, true, false, true≢false, false≢true, cond, ◌&&◌}
use mathlib.Core.List.{List, [], ◌++◌, append-nil}
use mathlib.Core.Path.{◌≡◌, refl, sym, ◌∙◌, ap, ap₂}
use lib.ListN.{length, take, drop, length-take, length-drop, take-append-drop, drop_of_length-le}
use lib.Dec.{leb, eqb}
use lib.Seq.{drop-drop}
use borrow.Author.Tests.{leb-true, eqb-true, le-leb, lt-leb, eq-eqb, ne_eqb}
use Rattle.refusal.specs.Order.{Res, refuse, accept}
use Rattle.refusal.proofs.Order.{need_inv, then_inv, then_accept, then_refuse}
use Rattle.octets.specs.Place.{part, pasted}
use Rattle.framing.specs.Suite.{Suite}
use Rattle.framing.specs.Packet.{Message}
use Rattle.framing.specs.Read.{body_length, head_of, code_of, before_trailer, decrypted, payload_in, body_in, payload_behind, rest_of, read_of}
use Rattle.framing.specs.Read.{read_with, opened, left_by, left_of, accepts, blocks_of, openable}
use Rattle.framing.specs.Outer.{outer_of, read_datagram_of, left_datagram, blocks_datagram}
use Rattle.framing.specs.Told.{Shown, shown}
use Rattle.octets.proofs.Equal.{and_inv}
use Rattle.octets.proofs.Order.{by_cases, cond_true, cond_false}
use Rattle.framing.proofs.Sound.{length_front}
use Rattle.octets.proofs.Place.{to_end}
use Rattle.framing.proofs.Blocks.{length_part}
use Rattle.framing.proofs.Rest.{shown_stop}

-- what was lent and changed stands in the place of what it was
pub put_in_place : (l y x : List ℕ) (a n : ℕ) → y ≡ x → length x ≡ n → take a l ++ (y ++ drop n (drop a l)) ≡ pasted l a x
unfolding pasted
put_in_place l y x a n e h = ap₂ (λ (u v : List ℕ). take a l ++ (u ++ v)) e (drop-drop n a l ∙ ap (λ (k : ℕ). drop (a + k) l) (sym h))

-- an encrypted body of whole blocks that lies within the packet
abbrev pub Openable : List ℕ → Type 0
Openable l = (16 ≤ body_length l) × ((body_length l - 16) % 16 ≡ 0) × (12 + body_length l ≤ length l)

-- the test of it, one law for each way out
module _ (l : List ℕ) (n : ℕ) (e : n ≡ body_length l) where
  pub open_short : n < 16 → false ≡ openable l
  unfolding openable
  open_short h =
      let g : body_length l < 16 = omega arith in
      sym (ap (λ (b : Bool). b && (eqb ((body_length l - 16) % 16) 0 && leb (12 + body_length l) (length l))) (lt-leb _ _ g))

  module _ (h : 16 ≤ n) where
    long : leb 16 (body_length l) ≡ true
    long = let g : 16 ≤ body_length l = omega arith in le-leb _ _ g

    pub open_broken : ((n - 16) % 16 ≡ 0 → ⊥) → false ≡ openable l
    unfolding openable
    open_broken f =
        let g : (body_length l - 16) % 16 ≡ 0 → ⊥ = λ d. f (ap (λ (k : ℕ). (k - 16) % 16) e ∙ d) in
        sym (ap₂ (λ (b c : Bool). b && (c && leb (12 + body_length l) (length l))) long (ne_eqb _ _ g))

    pub open_whole : (n - 16) % 16 ≡ 0 → (b : Bool) → b ≡ leb (12 + n) (length l) → b ≡ openable l
    unfolding openable
    open_whole f b g =
        let d : (body_length l - 16) % 16 ≡ 0 = ap (λ (k : ℕ). (k - 16) % 16) (sym e) ∙ f in
        g ∙ ap (λ (k : ℕ). leb (12 + k) (length l)) e
        ∙ sym (ap₂ (λ (x y : Bool). x && (y && leb (12 + body_length l) (length l))) long (eq-eqb _ _ d))

pub openable_inv : (l : List ℕ) → openable l ≡ true → Openable l
unfolding openable
openable_inv l e =
    let a = and_inv _ _ e in
    let b = and_inv _ _ a.1 in
    (leb-true _ _ a.0, eqb-true _ _ b.0, leb-true _ _ b.1)

openable_is : (l : List ℕ) → Openable l → openable l ≡ true
unfolding openable
openable_is l o = ap₂ ◌&&◌ (le-leb _ _ o.0) (ap₂ ◌&&◌ (eq-eqb _ _ o.1) (le-leb _ _ o.2))

-- the part between the IV and the trailer, decrypted by any cipher that keeps the length of whole blocks
module _ (dec : List ℕ → List ℕ → List ℕ → List ℕ) (same_size : (k iv x : List ℕ) → length x % 16 ≡ 0 → length (dec k iv x) ≡ length x) where
  pub body_in_place : (l y key K iv : List ℕ) (n : ℕ) → Openable l → n ≡ body_length l → key ≡ K → iv ≡ part l 12 16
      → y ≡ dec key iv (take (12 + n - 28) (drop 28 l))
      → take 28 l ++ (y ++ drop (12 + n - 28) (drop 28 l)) ≡ pasted l 28 (dec K (part l 12 16) (part l 28 (body_length l - 16)))
  body_in_place l y key K iv n o hn hk hi e =
      let size : 12 + n - 28 ≡ body_length l - 16 = omega (arith, o.0) in
      let fits : 28 + (body_length l - 16) ≤ length l = omega (arith, o.0, o.2) in
      let long : length (part l 28 (body_length l - 16)) ≡ body_length l - 16 = length_part l 28 (body_length l - 16) fits in
      let whole : length (part l 28 (body_length l - 16)) % 16 ≡ 0 = ap (λ (k : ℕ). k % 16) long ∙ o.1 in
      put_in_place l y _ 28 (12 + n - 28) (e ∙ (λ i. dec (hk i) (hi i) (part l 28 (size i))))
      (same_size K (part l 12 16) (part l 28 (body_length l - 16)) whole ∙ long ∙ sym size)

module _ (S : Suite) (l : List ℕ) where
  pub opened_bare : S.aes ≡ false → l ≡ opened S l
  unfolding opened
  opened_bare e = sym (cond_false S.aes _ l e)

  opened-part : S.aes ≡ true → (x : List ℕ) → x ≡ pasted l 28 (S.dec (part l 12 16) (part l 28 (body_length l - 16))) → x ≡ opened S l
  unfolding opened
  opened-part e x f = f ∙ sym (cond_true S.aes _ l e)

  -- what opening leaves, one law for each way out
  pub open_bare : S.aes ≡ false → l ≡ cond (openable l) (opened S l) l
  open_bare e = by (openable l)
    where
      by : (b : Bool) → l ≡ cond b (opened S l) l
      by true = opened_bare e
      by false = refl

  pub open_none : openable l ≡ false → l ≡ cond (openable l) (opened S l) l
  open_none e = sym (cond_false (openable l) (opened S l) l e)

  pub open_done : S.aes ≡ true → openable l ≡ true → (x : List ℕ) → x ≡ pasted l 28 (S.dec (part l 12 16) (part l 28 (body_length l - 16)))
      → x ≡ cond (openable l) (opened S l) l
  open_done a e x f = opened-part a x f ∙ sym (cond_true (openable l) (opened S l) l e)

  -- the body of an accepted packet is whole blocks within it
  body_whole : (b payload : List ℕ) → S.aes ≡ true → payload_in S b ≡ accept payload → (16 ≤ length b) × ((length b - 16) % 16 ≡ 0)
  unfolding payload_in decrypted
  body_whole b payload a e =
      let t1 = need_inv _ _ _ _ (sym (cond_true S.aes (decrypted S b) (accept b) a) ∙ e) in
      let t2 = need_inv _ _ _ _ t1.1 in
      (leb-true _ _ t1.0, eqb-true _ _ t2.0)

  left_openable : (n : ℕ) (payload : List ℕ) → S.aes ≡ true → body_in S (take n l) ≡ accept payload → Openable l
  unfolding body_in
  left_openable n payload a e =
      let t1 = need_inv _ _ _ _ e in
      let t2 = need_inv _ _ _ _ t1.1 in
      let long : 12 ≤ length (take n l) = leb-true _ _ t1.0 in
      let told : body_length (take n l) ≡ length (take n l) - 12 = eqb-true _ _ t2.0 in
      let b = body_whole (drop 12 (take n l)) payload a t2.1 in
      let rest : length (drop 12 (take n l)) ≡ length (take n l) - 12 = length-drop 12 (take n l) in
      let same_length : body_length (take n l) ≡ body_length l = length_front l n (omega (arith, length-take n l)) (omega (arith, length-take n l)) in
      let size : length (drop 12 (take n l)) ≡ body_length l = omega arith in
      (omega (arith, b.0), ap (λ (k : ℕ). (k - 16) % 16) (sym size) ∙ b.1, omega (arith, length-take n l))

  -- an accepted packet can be opened
  pub accepted_openable : (M : Message) → S.aes ≡ true → read_of S l ≡ accept M → openable l ≡ true
  unfolding read_of read_with rest_of payload_behind
  accepted_openable M a e =
      let h = then_inv (head_of S l) (rest_of S (code_of S l) l) M e in
      let b = then_inv (payload_behind S (code_of S l) l) _ M h.2 in
      let t = then_inv (before_trailer S (code_of S l) l) _ b.0 b.1 in
      openable_is l (left_openable t.0 b.0 a t.2)

  -- so opening leaves it opened
  accepted_opened : (M : Message) → read_of S l ≡ accept M → cond (openable l) (opened S l) l ≡ opened S l
  accepted_opened M e =
      by_cases S.aes
      (λ a. cond_true (openable l) (opened S l) l (accepted_openable M a e))
      (λ a. sym (open_bare a) ∙ opened_bare a)

  -- what was told says whether it was accepted
  module _ (x : Res Shown) (e : x ≡ shown (read_of S l)) where
    pub left_opened : accepts x ≡ true → cond (openable l) (opened S l) l ≡ left_of S l
    unfolding left_of
    left_opened h = by (read_of S l) refl
      where
        by : (r : Res Message) → read_of S l ≡ r → cond (openable l) (opened S l) l ≡ left_by (read_of S l) l (opened S l)
        by (refuse n v) f = absurd (false≢true (sym (ap accepts (e ∙ shown_stop (read_of S l) n v f)) ∙ h))
        by (accept M) f = accepted_opened M f ∙ sym (ap (λ (r : Res Message). left_by r l (opened S l)) f)

    pub left_found : accepts x ≡ false → l ≡ left_of S l
    unfolding left_of shown
    left_found h = by (read_of S l) refl
      where
        by : (r : Res Message) → read_of S l ≡ r → l ≡ left_by (read_of S l) l (opened S l)
        by (refuse n v) f = sym (ap (λ (r : Res Message). left_by r l (opened S l)) f)
        by (accept M) f = absurd (true≢false (sym (ap accepts (e ∙ then_accept (read_of S l) _ M f)) ∙ h))

-- the outer call: what is told, the blocks and the buffer, one law for each way out
module _ (S : Suite) (d : List ℕ) (x : Res (Unit {0})) (e : x ≡ outer_of d) where
  pub outer_no : (n v : ℕ) → x ≡ refuse n v → (refuse n v ≡ shown (read_datagram_of S d)) × (0 ≡ blocks_datagram S d) × (d ≡ left_datagram S d)
  unfolding read_datagram_of blocks_datagram left_datagram
  outer_no n v f =
      let none : read_datagram_of S d ≡ refuse n v = then_refuse (outer_of d) _ n v (sym e ∙ f) in (
        sym (shown_stop (read_datagram_of S d) n v none),
        sym (ap (λ (t : Res (Unit {0})). cond (accepts t) (blocks_of S (drop 4 d)) 0) (sym e ∙ f)),
        sym (ap (λ (t : Res Message). left_by t d (take 4 d ++ opened S (drop 4 d))) none),
      )

  pub outer_on : (u : Unit {0}) (a : Res Shown) (n : ℕ) (l y : List ℕ) → x ≡ accept u → l ≡ take (length d - 4) (drop 4 d)
      → a ≡ shown (read_of S l) → n ≡ blocks_of S l → y ≡ left_of S l
      → (a ≡ shown (read_datagram_of S d)) × (n ≡ blocks_datagram S d) × (take 4 d ++ (y ++ drop (length d - 4) (drop 4 d)) ≡ left_datagram S d)
  unfolding read_datagram_of blocks_datagram left_datagram left_of
  outer_on u a n l y g f told count left =
      let inner : read_datagram_of S d ≡ read_of S (drop 4 d) = then_accept (outer_of d) _ u (sym e ∙ g) in
      let over : length (drop 4 d) ≤ length d - 4 = omega (arith, length-drop 4 d) in
      let rest : drop (length d - 4) (drop 4 d) ≡ [] = drop_of_length-le (drop 4 d) over in
      let packet : l ≡ drop 4 d = f ∙ to_end (length d) 4 d (omega arith) in (
        told ∙ ap (λ (z : List ℕ). shown (read_of S z)) packet ∙ ap shown (sym inner),
        count ∙ ap (blocks_of S) packet ∙ sym (ap (λ (t : Res (Unit {0})). cond (accepts t) (blocks_of S (drop 4 d)) 0) (sym e ∙ g)),
        ap (λ (z : List ℕ). take 4 d ++ z)
            (ap (λ (z : List ℕ). y ++ z) rest ∙ append-nil y ∙ left ∙ ap (λ (z : List ℕ). left_by (read_of S z) z (opened S z)) packet)
            ∙ outer_left (read_of S (drop 4 d)) ∙ ap (λ (z : Res Message). left_by z d (take 4 d ++ opened S (drop 4 d))) (sym inner),
      )
    where
      outer_left : (r : Res Message) → take 4 d ++ left_by r (drop 4 d) (opened S (drop 4 d)) ≡ left_by r d (take 4 d ++ opened S (drop 4 d))
      outer_left (refuse n v) = take-append-drop 4 d
      outer_left (accept M) = refl
