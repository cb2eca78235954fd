-- The writer's sizes and refusals, one law for each way out.
use Prim.Native.Nat.{ℕ, ◌+◌, ◌≤◌, ◌<◌}
use native.Mathlib.Omega.{arith}
use mathlib.Core.Bool.{Bool, true, false}
use mathlib.Core.Path.{◌≡◌, refl, sym, ◌∙◌, ap, ap₂}
use borrow.Author.Tests.{le-leb, lt-leb}
use Rattle.refusal.specs.Order.{refuse, accept}
use Rattle.refusal.proofs.Order.{pass, need_no}
use Rattle.framing.specs.Suite.{Suite}
use Rattle.framing.specs.Write.{least_q, body_size, trailer_size, packet_size, longest_payload, room_of}

pub body_small : (b : Bool) (n : ℕ) → n ≤ 65535 → body_size b n ≤ 65568
body_small true n h = omega arith
body_small false n h = omega arith

pub packet_small : (S : Suite) (n : ℕ) → n ≤ 65535 → packet_size S n ≤ 65585 + S.m
packet_small S n h = by S.auth (body_small S.aes n h)
  where
    by : (b : Bool) → body_size S.aes n ≤ 65568 → 12 + body_size S.aes n + trailer_size b S.m (12 + body_size S.aes n) ≤ 65585 + S.m
    by true k = omega arith
    by false k = omega arith

-- with integrity, and without
module _ (S : Suite) (n k : ℕ) (e : k ≡ body_size S.aes n) where
  pub size_bare : S.auth ≡ false → 12 + k ≡ packet_size S n
  size_bare g = let none : 12 + k ≡ 12 + k + 0 = omega arith in none ∙ (λ i. 12 + e i + trailer_size (sym g i) S.m (12 + e i))

  pub size_auth : (q m : ℕ) → S.auth ≡ true → q ≡ least_q (12 + k) → m ≡ S.m → 12 + k + (q + 2 + m) ≡ packet_size S n
  size_auth q m g hq hm = ap₂ (λ (x y : ℕ). 12 + k + (x + 2 + y)) hq hm ∙ (λ i. 12 + e i + trailer_size (sym g i) S.m (12 + e i))

module _ (S : Suite) (before n room : ℕ) where
  pub room_13 : 65535 < n → refuse 13 0 ≡ room_of S before n room
  unfolding room_of
  room_13 h = sym (need_no _ _ _ _ (lt-leb _ _ h))

  module _ (h : n ≤ 65535) where
    pub room_14 : longest_payload S.aes < n → refuse 14 0 ≡ room_of S before n room
    unfolding room_of
    room_14 g = sym (pass _ _ _ _ (le-leb _ _ h) (need_no _ _ _ _ (lt-leb _ _ g)))

    module _ (g : n ≤ longest_payload S.aes) (size : ℕ) (e : size ≡ before + packet_size S n) where
      pub room_15 : room < size → refuse 15 0 ≡ room_of S before n room
      unfolding room_of
      room_15 k =
          let short : room < before + packet_size S n = omega arith in
          sym (pass _ _ _ _ (le-leb _ _ h) (pass _ _ _ _ (le-leb _ _ g) (need_no _ _ _ _ (lt-leb _ _ short))))

      pub room_done : size ≤ room → accept size ≡ room_of S before n room
      unfolding room_of
      room_done k =
          let enough : before + packet_size S n ≤ room = omega arith in
          ap accept e ∙ sym (pass _ _ _ _ (le-leb _ _ h) (pass _ _ _ _ (le-leb _ _ g) (pass _ _ _ _ (le-leb _ _ enough) refl)))
