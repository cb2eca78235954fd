-- The stages put together: where one stops the whole stops, where it goes on the next decides.
use Prim.Native.Nat.{ℕ}
use mathlib.Core.List.{List}
use mathlib.Core.Path.{◌≡◌, sym, ◌∙◌, ap}
use lib.ListN.{length, take}
use Rattle.refusal.specs.Order.{Res, refuse, accept, and_then}
use Rattle.refusal.proofs.Order.{then_refuse, then_accept, then_inv, accept_inj, refuse≢accept}
use Rattle.octets.specs.Number.{unle}
use Rattle.octets.specs.Place.{part}
use Rattle.framing.specs.Suite.{Suite}
use Rattle.framing.specs.Packet.{Message}
use Rattle.framing.specs.Read.{message_of, before_trailer, body_in, payload_behind, rest_of}
use Rattle.framing.specs.Told.{counted, shown}

-- a count that was refused, and one that was found
counted_stop : (r : Res (List ℕ)) (n v : ℕ) → counted r ≡ refuse n v → r ≡ refuse n v
unfolding counted and_then
counted_stop (refuse n v) m w e = (λ i. refuse (number i) (value i))
  where
    number : n ≡ m
    number = cc

    value : v ≡ w
    value = cc
counted_stop (accept x) m w e = absurd (refuse≢accept m w (length x) (sym e))

counted_go : (r : Res (List ℕ)) (n : ℕ) → counted r ≡ accept n → (x : List ℕ) × (r ≡ accept x) × (length x ≡ n)
unfolding counted
counted_go r n e = let f = then_inv r _ n e in (f.0, f.1, accept_inj _ _ f.2)

pub shown_stop : (r : Res Message) (n v : ℕ) → r ≡ refuse n v → shown r ≡ refuse n v
unfolding shown
shown_stop r n v e = then_refuse r _ n v e

module _ (S : Suite) (code l : List ℕ) where
  pub behind_stop : (r : Res ℕ) (n v : ℕ) → r ≡ before_trailer S code l → r ≡ refuse n v → r ≡ counted (payload_behind S code l)
  unfolding payload_behind counted
  behind_stop r n v e f =
      f ∙ sym (then_refuse (payload_behind S code l) _ n v (then_refuse (before_trailer S code l) (λ k. body_in S (take k l)) n v (sym e ∙ f)))

  pub behind_go : (r t : Res ℕ) (n : ℕ) → t ≡ before_trailer S code l → t ≡ accept n → r ≡ counted (body_in S (take n l))
      → r ≡ counted (payload_behind S code l)
  unfolding payload_behind
  behind_go r t n e g f = f ∙ ap counted (sym (then_accept (before_trailer S code l) (λ k. body_in S (take k l)) n (sym e ∙ g)))

  module _ (ty : ℕ) (r : Res ℕ) (e : r ≡ counted (payload_behind S code l)) where
    pub rest_stop : (n v : ℕ) → r ≡ refuse n v → refuse n v ≡ shown (rest_of S code l ty)
    unfolding rest_of
    rest_stop n v f =
        sym (shown_stop (rest_of S code l ty) n v (then_refuse (payload_behind S code l) _ n v (counted_stop (payload_behind S code l) n v (sym e ∙ f))))

    pub rest_go : (n i q : ℕ) → r ≡ accept n → i ≡ unle (part l 2 4) → q ≡ unle (part l 6 4)
        → accept (record { ty = ty; id = i; seq = q; len = n }) ≡ shown (rest_of S code l ty)
    unfolding rest_of shown
    rest_go n i q f hi hq =
        let found = counted_go (payload_behind S code l) n (sym e ∙ f) in
        let M : Message = message_of ty l found.0 in
        (λ j. accept (record { ty = ty; id = hi j; seq = hq j; len = sym found.2 j }))
        ∙ sym (then_accept (rest_of S code l ty) _ M (then_accept (payload_behind S code l) _ found.0 found.1))
