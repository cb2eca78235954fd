-- The refusals of the frame have numbers below 38: what is refused by 38 or 39 is refused by its number.
use Prim.Native.Nat.{ℕ, ◌<◌}
use mathlib.Core.Bool.{Bool, true, false, cond}
use mathlib.Core.List.{List}
use mathlib.Core.Path.{◌≡◌, subst}
use lib.Dec.{lit<}
use Rattle.refusal.specs.Order.{Res, refuse, accept, need, and_then}
use Rattle.framing.specs.Suite.{Suite}
use Rattle.framing.specs.Read.{head_of, trailer_of, before_trailer, unpadded, decrypted, payload_in, body_in, payload_behind, rest_of, read_with, read_of}
use Rattle.framing.specs.Outer.{outer_of, read_datagram_of}

-- a refusal's number is below 38
abbrev Low : {A : Type 0} → Res A → Type 0
Low (refuse n v) = n < 38
Low (accept a) = Unit

module _ {A : Type 0} where
  low_need : (b : Bool) (n v : ℕ) (r : Res A) → n < 38 → Low r → Low (need b n v r)
  unfolding need
  low_need true n v r h l = l
  low_need false n v r h l = h

  low_cond : (b : Bool) (x y : Res A) → Low x → Low y → Low (cond b x y)
  low_cond true x y h l = h
  low_cond false x y h l = l

  low_number : (R : Res A) (n v : ℕ) → Low R → R ≡ refuse n v → n < 38
  low_number R n v l e = subst Low e l

low_then : {A B : Type 0} (R : Res A) (f : A → Res B) → Low R → ((a : A) → Low (f a)) → Low (and_then R f)
unfolding and_then
low_then (refuse n v) f l h = l
low_then (accept a) f l h = h a

module _ (S : Suite) where
  low_head : (l : List ℕ) → Low (head_of S l)
  unfolding head_of
  low_head l =
      low_need _ 1 _ _ (lit< tt)
      (low_need _ 2 _ _ (lit< tt)
      (low_need _ 3 _ _ (lit< tt)
      (low_need _ 4 _ _ (lit< tt)
      (low_need _ 5 _ _ (lit< tt)
      (low_need _ 9 _ _ (lit< tt) tt)))))

  low_trailer : (code l : List ℕ) → Low (trailer_of S code l)
  unfolding trailer_of
  low_trailer code l =
      low_need _ 6 _ _ (lit< tt)
      (low_need _ 7 _ _ (lit< tt)
      (low_need _ 6 _ _ (lit< tt)
      (low_need _ 8 _ _ (lit< tt) tt)))

  low_before : (code l : List ℕ) → Low (before_trailer S code l)
  unfolding before_trailer
  low_before code l = low_cond S.auth _ _ (low_trailer code l) tt

  low_unpadded : (x : List ℕ) → Low (unpadded x)
  unfolding unpadded
  low_unpadded x = low_need _ 10 _ _ (lit< tt) (low_need _ 11 _ _ (lit< tt) tt)

  low_payload : (b : List ℕ) → Low (payload_in S b)
  unfolding payload_in decrypted
  low_payload b =
      low_cond S.aes _ _
      (low_need _ 1 _ _ (lit< tt)
      (low_need _ 12 _ _ (lit< tt)
      (low_need _ 10 _ _ (lit< tt) (low_unpadded _))))
      tt

  low_body : (l : List ℕ) → Low (body_in S l)
  unfolding body_in
  low_body l = low_need _ 1 _ _ (lit< tt) (low_need _ 9 _ _ (lit< tt) (low_payload _))

  low_read : (l : List ℕ) → Low (read_of S l)
  unfolding read_of read_with rest_of payload_behind
  low_read l = low_then (head_of S l) _ (low_head l) (λ ty. low_then _ _ (low_then _ _ (low_before _ l) (λ n. low_body _)) (λ _. tt))

  low_datagram : (d : List ℕ) → Low (read_datagram_of S d)
  unfolding read_datagram_of outer_of
  low_datagram d = low_then _ _ (low_need _ 1 _ _ (lit< tt) (low_need _ 16 _ _ (lit< tt) tt)) (λ _. low_read _)

  pub read_below : (l : List ℕ) (n v : ℕ) → read_of S l ≡ refuse n v → n < 38
  read_below l n v e = low_number (read_of S l) n v (low_read l) e

  pub datagram_below : (d : List ℕ) (n v : ℕ) → read_datagram_of S d ≡ refuse n v → n < 38
  datagram_below d n v e = low_number (read_datagram_of S d) n v (low_datagram d) e
