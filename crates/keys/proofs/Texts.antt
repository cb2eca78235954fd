-- What is fed in pieces is the text that a code covers, and is short enough.
use Prim.Native.Nat.{ℕ, ◌≤◌}
use native.Mathlib.Omega.{arith}
use mathlib.Core.List.{List, [], ◌∷◌, ◌++◌, append_assoc, append-nil}
use mathlib.Core.Path.{◌≡◌, ap, ap₂}
use lib.ListN.{length, length-append}
use Rattle.octets.specs.Number.{le}
use Rattle.hmac.specs.Pieces.{joined}
use Rattle.keys.specs.Codes.{text2, text_sik, text3, text4}

-- a b rm rc guid : the pieces of message 2's code before N
module _ (a b rm rc guid : List ℕ) where
  pub room_2 : length a ≡ 4 → length b ≡ 4 → length rm ≡ 16 → length rc ≡ 16 → length guid ≡ 16
      → length (joined (a ∷ b ∷ rm ∷ rc ∷ guid ∷ [])) ≤ 1024
  unfolding joined
  room_2 h i j k l = simp length-append (omega arith)

  pub joined_2 : (sidm sidc : ℕ) (n : List ℕ) → a ≡ le 4 sidm → b ≡ le 4 sidc
      → joined (a ∷ b ∷ rm ∷ rc ∷ guid ∷ []) ++ n ≡ text2 sidm sidc rm rc guid n
  unfolding joined text2
  joined_2 sidm sidc n e f = simp append_assoc (ap₂ (λ (x y : List ℕ). x ++ (y ++ (rm ++ (rc ++ (guid ++ n))))) e f)

module _ (a b : List ℕ) where
  pub room_sik : length a ≡ 16 → length b ≡ 16 → length (joined (a ∷ b ∷ [])) ≤ 1024
  unfolding joined
  room_sik h i = simp length-append (omega arith)

  pub joined_sik : (n : List ℕ) → joined (a ∷ b ∷ []) ++ n ≡ text_sik a b n
  unfolding joined text_sik
  joined_sik n = simp append_assoc

  pub room_3 : length a ≡ 16 → length b ≡ 4 → length (joined (a ∷ b ∷ [])) ≤ 1024
  unfolding joined
  room_3 h i = simp length-append (omega arith)

  pub joined_3 : (sidm : ℕ) (n : List ℕ) → b ≡ le 4 sidm → joined (a ∷ b ∷ []) ++ n ≡ text3 a sidm n
  unfolding joined text3
  joined_3 sidm n e = simp append_assoc (ap (λ (x : List ℕ). a ++ (x ++ n)) e)

module _ (a b c : List ℕ) where
  pub room_4 : length a ≡ 16 → length b ≡ 4 → length c ≡ 16 → length (joined (a ∷ b ∷ c ∷ [])) ≤ 1024
  unfolding joined
  room_4 h i j = simp length-append (omega arith)

  pub joined_4 : (sidc : ℕ) → b ≡ le 4 sidc → joined (a ∷ b ∷ c ∷ []) ≡ text4 a sidc c
  unfolding joined text4
  joined_4 sidc e = simp (append_assoc, append-nil) (ap (λ (x : List ℕ). a ++ (x ++ c)) e)
