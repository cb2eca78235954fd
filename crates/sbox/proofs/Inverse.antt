-- The inverse in the field is one, and each substitution undoes the other.
use Prim.Native.Nat.{ℕ, zero, suc, ◌<◌}
use mathlib.Core.Path.{◌≡◌, sym, ◌∙◌, ap}
use mathlib.Core.List.{List, [], ◌∷◌}
use native.Mathlib.Nat.{le_of_suc-le-suc, not-suc-le-zero}
use lib.ListN.{length, get_or}
use Rattle.sbox.specs.Field.{mul, inverse}
use Rattle.sbox.specs.Substitution.{unaffine, sub_byte, unsub_byte, sub_bytes, unsub_bytes}
use Rattle.octets.proofs.Agree.{agree}
use Rattle.sbox.proofs.Sizes.{sub_byte_byte, unsub_byte_byte}
use Rattle.octets.proofs.Tab.{tab_self}
use Rattle.sbox.proofs.Table.{sbox, unsbox, sbox_rule, inverse_rule, unsbox_rule}

-- each byte but {00} times its inverse is {01}
pub mul-inverse : (a : ℕ) → a < 256 → 0 < a → mul a (inverse a) ≡ 1
mul-inverse zero h z = absurd (not-suc-le-zero z)
mul-inverse (suc a) h z = ap (mul (suc a)) (inverse_rule (suc a) h) ∙ test a (le_of_suc-le-suc h)
  where
    test : (b : ℕ) → b < 255 → mul (suc b) (unaffine (get_or sbox (suc b) 0)) ≡ 1
    test = unfold mul unaffine in agree (λ b. mul (suc b) (unaffine (get_or sbox (suc b) 0))) (λ b. 1) 255 tt

-- each substitution undoes the other on bytes
pub unsub_sub : (a : ℕ) → a < 256 → unsub_byte (sub_byte a) ≡ a
unsub_sub a h =
    sym (unsbox_rule (sub_byte a) (sub_byte_byte a)) ∙ ap (λ (x : ℕ). get_or unsbox x 0) (sym (sbox_rule a h))
    ∙ agree (λ b. get_or unsbox (get_or sbox b 0) 0) (λ b. b) 256 tt a h

pub sub_unsub : (a : ℕ) → a < 256 → sub_byte (unsub_byte a) ≡ a
sub_unsub a h =
    sym (sbox_rule (unsub_byte a) (unsub_byte_byte a)) ∙ ap (λ (x : ℕ). get_or sbox x 0) (sym (unsbox_rule a h))
    ∙ agree (λ b. get_or sbox (get_or unsbox b 0) 0) (λ b. b) 256 tt a h

module _ (s : List ℕ) (size : length s ≡ 16) (small : (i : ℕ) → get_or s i 0 < 256) where
  -- each block substitution undoes the other
  pub unsub_sub_bytes : unsub_bytes (sub_bytes s) ≡ s
  unfolding sub_bytes unsub_bytes
  unsub_sub_bytes =
      (λ i. u 0 i ∷ u 1 i ∷ u 2 i ∷ u 3 i ∷ u 4 i ∷ u 5 i ∷ u 6 i ∷ u 7 i
      ∷ u 8 i ∷ u 9 i ∷ u 10 i ∷ u 11 i ∷ u 12 i ∷ u 13 i ∷ u 14 i ∷ u 15 i ∷ [])
      ∙ tab_self s 16 size
    where
      u : (k : ℕ) → unsub_byte (sub_byte (get_or s k 0)) ≡ get_or s k 0
      u k = unsub_sub (get_or s k 0) (small k)

  pub sub-unsub_bytes : sub_bytes (unsub_bytes s) ≡ s
  unfolding sub_bytes unsub_bytes
  sub-unsub_bytes =
      (λ i. u 0 i ∷ u 1 i ∷ u 2 i ∷ u 3 i ∷ u 4 i ∷ u 5 i ∷ u 6 i ∷ u 7 i
      ∷ u 8 i ∷ u 9 i ∷ u 10 i ∷ u 11 i ∷ u 12 i ∷ u 13 i ∷ u 14 i ∷ u 15 i ∷ [])
      ∙ tab_self s 16 size
    where
      u : (k : ℕ) → sub_byte (unsub_byte (get_or s k 0)) ≡ get_or s k 0
      u k = sub_unsub (get_or s k 0) (small k)
