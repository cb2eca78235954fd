-- MixColumns and InvMixColumns on one column: what the code computes is the matrix's row, and each matrix undoes the other.
use Prim.Native.Nat.{ℕ, ◌<◌}
use mathlib.Core.Path.{◌≡◌, refl, sym, ◌∙◌, ap, ap₂}
use lib.Bits.{bit_xor, xor_zero_r, xor_comm}
use Rattle.sbox.specs.Field.{xtime, mul}
use Rattle.aes.specs.State.{row, mix_row, unmix_row}
use Rattle.octets.proofs.Xor.{xor_assoc}
use Rattle.octets.proofs.ByBits.{Linear, by_bits}
use Rattle.sbox.proofs.Linear.{mul-xor, xtime-xor, mul_1, mul_2, mul_3, mul_9, mul_11, mul_13, mul_14}
use Rattle.aes.proofs.Quad.{quad, quad_ap, quad_turn, quad_quad, quad_xor, quad_first, quad_left, quad_234, quad_12, quad_13}
use Rattle.aes.proofs.Quad.{xtime_quad, mul_quad}

-- one doubling for a byte of a mixed column
pub mix_one : (a b c d : ℕ) → bit_xor (bit_xor (xtime (bit_xor a b)) b) (bit_xor c d) ≡ mix_row a b c d
unfolding mix_row row
mix_one a b c d =
    ap₂ bit_xor
    (ap (λ (x : ℕ). bit_xor x b) (xtime-xor a b) ∙ xor_assoc (xtime a) (xtime b) b
    ∙ ap₂ bit_xor (sym (mul_2 a)) (xor_comm (xtime b) b ∙ sym (mul_3 b)))
    (ap₂ bit_xor (sym (mul_1 c)) (sym (mul_1 d)))

module _ (x : ℕ) where
  by_14 : mul 14 x ≡ quad (xtime (xtime (xtime x))) (xtime (xtime x)) (xtime x) 0
  unfolding quad
  by_14 =
      mul_14 x ∙ xor_comm (xtime x) _
      ∙ ap₂ bit_xor (xor_comm (xtime (xtime x)) (xtime (xtime (xtime x)))) (sym (xor_zero_r (xtime x)))

  by_11 : mul 11 x ≡ quad (xtime (xtime (xtime x))) 0 (xtime x) x
  unfolding quad
  by_11 =
      mul_11 x ∙ sym (xor_assoc x (xtime x) (xtime (xtime (xtime x)))) ∙ xor_comm (bit_xor x (xtime x)) _
      ∙ ap₂ bit_xor (sym (xor_zero_r (xtime (xtime (xtime x))))) (xor_comm x (xtime x))

  by_13 : mul 13 x ≡ quad (xtime (xtime (xtime x))) (xtime (xtime x)) 0 x
  unfolding quad
  by_13 = mul_13 x ∙ xor_comm x _ ∙ ap (λ (y : ℕ). bit_xor y x) (xor_comm (xtime (xtime x)) (xtime (xtime (xtime x))))

  by_9 : mul 9 x ≡ quad (xtime (xtime (xtime x))) 0 0 x
  unfolding quad
  by_9 = mul_9 x ∙ xor_comm x _ ∙ ap (λ (y : ℕ). bit_xor y x) (sym (xor_zero_r (xtime (xtime (xtime x)))))

row_is : (p q r s a b c d : ℕ) → row p q r s a b c d ≡ quad (mul p a) (mul q b) (mul r c) (mul s d)
unfolding row quad
row_is p q r s a b c d = refl

-- three doublings for a byte of an unmixed column
pub unmix_one : (a b c d : ℕ)
    → bit_xor (xtime (bit_xor (xtime (bit_xor (xtime (quad a b c d)) (bit_xor a c))) (bit_xor a b))) (bit_xor b (bit_xor c d)) ≡ unmix_row a b c d
unfolding unmix_row
unmix_one a b c d =
    ap (λ (x : ℕ). bit_xor x (bit_xor b (bit_xor c d))) (xtime-xor _ (bit_xor a b) ∙ ap (λ (x : ℕ). bit_xor x (xtime (bit_xor a b))) deep)
    ∙ quad_left _ _ _ _
    ∙ quad_ap eight four (xtime-xor a b ∙ quad_12 (xtime a) (xtime b)) (quad_234 b c d)
    ∙ quad_quad _ _ _ _ _ _ _ _ _ _ _ _ _ _ _ _
    ∙ sym (row_is 14 11 13 9 a b c d ∙ quad_ap (by_14 a) (by_11 b) (by_13 c) (by_9 d))
  where
    four : xtime (xtime (bit_xor a c)) ≡ quad (xtime (xtime a)) 0 (xtime (xtime c)) 0
    four = ap xtime (xtime-xor a c) ∙ xtime-xor (xtime a) (xtime c) ∙ quad_13 (xtime (xtime a)) (xtime (xtime c))

    eight : xtime (xtime (xtime (quad a b c d)))
        ≡ quad (xtime (xtime (xtime a))) (xtime (xtime (xtime b))) (xtime (xtime (xtime c))) (xtime (xtime (xtime d)))
    eight = ap (λ (x : ℕ). xtime (xtime x)) (xtime_quad a b c d) ∙ ap xtime (xtime_quad _ _ _ _) ∙ xtime_quad _ _ _ _

    deep : xtime (xtime (bit_xor (xtime (quad a b c d)) (bit_xor a c)))
        ≡ bit_xor (xtime (xtime (xtime (quad a b c d)))) (xtime (xtime (bit_xor a c)))
    deep = ap xtime (xtime-xor _ (bit_xor a c)) ∙ xtime-xor _ _

-- two products in a row
two : (p q : ℕ) → Linear (λ x. mul p (mul q x))
two p q x y = ap (mul p) (mul-xor q x y) ∙ mul-xor p (mul q x) (mul q y)

-- a row of one matrix times the columns of the other: what each byte is taken with
module _ (p q r s p' q' r' s' : ℕ) where
  abbrev pub col1 : ℕ → ℕ
  col1 x = quad (mul p (mul p' x)) (mul q (mul s' x)) (mul r (mul r' x)) (mul s (mul q' x))

  abbrev pub col2 : ℕ → ℕ
  col2 x = quad (mul p (mul q' x)) (mul q (mul p' x)) (mul r (mul s' x)) (mul s (mul r' x))

  abbrev pub col3 : ℕ → ℕ
  col3 x = quad (mul p (mul r' x)) (mul q (mul q' x)) (mul r (mul p' x)) (mul s (mul s' x))

  abbrev pub col4 : ℕ → ℕ
  col4 x = quad (mul p (mul s' x)) (mul q (mul r' x)) (mul r (mul q' x)) (mul s (mul p' x))

  row-row : (a b c d : ℕ)
      → row p q r s (row p' q' r' s' a b c d) (row p' q' r' s' b c d a) (row p' q' r' s' c d a b) (row p' q' r' s' d a b c)
      ≡ quad (col1 a) (col2 b) (col3 c) (col4 d)
  row-row a b c d =
      row_is p q r s _ _ _ _
      ∙ quad_ap
      (ap (mul p) (row_is p' q' r' s' a b c d) ∙ mul_quad p _ _ _ _)
      (ap (mul q) (row_is p' q' r' s' b c d a ∙ sym (quad_turn _ _ _ _)) ∙ mul_quad q _ _ _ _)
      (ap (mul r) (row_is p' q' r' s' c d a b ∙ quad_turn _ _ _ _ ∙ quad_turn _ _ _ _) ∙ mul_quad r _ _ _ _)
      (ap (mul s) (row_is p' q' r' s' d a b c ∙ quad_turn _ _ _ _) ∙ mul_quad s _ _ _ _)
      ∙ quad_quad _ _ _ _ _ _ _ _ _ _ _ _ _ _ _ _

  pub col1_linear : Linear col1
  col1_linear x y = quad_ap (two p p' x y) (two q s' x y) (two r r' x y) (two s q' x y) ∙ sym (quad_xor _ _ _ _ _ _ _ _)

  pub col2_linear : Linear col2
  col2_linear x y = quad_ap (two p q' x y) (two q p' x y) (two r s' x y) (two s r' x y) ∙ sym (quad_xor _ _ _ _ _ _ _ _)

  pub col3_linear : Linear col3
  col3_linear x y = quad_ap (two p r' x y) (two q q' x y) (two r p' x y) (two s s' x y) ∙ sym (quad_xor _ _ _ _ _ _ _ _)

  pub col4_linear : Linear col4
  col4_linear x y = quad_ap (two p s' x y) (two q r' x y) (two r q' x y) (two s p' x y) ∙ sym (quad_xor _ _ _ _ _ _ _ _)

-- each coefficient of the product of the two matrices: a test at the eight bits, and so at every byte
module _ (x : ℕ) (h : x < 256) where
  u1 : col1 14 11 13 9 2 3 1 1 x ≡ x
  unfolding mul quad
  u1 = by_bits (col1 14 11 13 9 2 3 1 1) (λ y. y) (col1_linear 14 11 13 9 2 3 1 1) (λ y z. refl) 8 tt x h

  u2 : col2 14 11 13 9 2 3 1 1 x ≡ 0
  unfolding mul quad
  u2 = by_bits (col2 14 11 13 9 2 3 1 1) (λ y. 0) (col2_linear 14 11 13 9 2 3 1 1) (λ y z. refl) 8 tt x h

  u3 : col3 14 11 13 9 2 3 1 1 x ≡ 0
  unfolding mul quad
  u3 = by_bits (col3 14 11 13 9 2 3 1 1) (λ y. 0) (col3_linear 14 11 13 9 2 3 1 1) (λ y z. refl) 8 tt x h

  u4 : col4 14 11 13 9 2 3 1 1 x ≡ 0
  unfolding mul quad
  u4 = by_bits (col4 14 11 13 9 2 3 1 1) (λ y. 0) (col4_linear 14 11 13 9 2 3 1 1) (λ y z. refl) 8 tt x h

  m1 : col1 2 3 1 1 14 11 13 9 x ≡ x
  unfolding mul quad
  m1 = by_bits (col1 2 3 1 1 14 11 13 9) (λ y. y) (col1_linear 2 3 1 1 14 11 13 9) (λ y z. refl) 8 tt x h

  m2 : col2 2 3 1 1 14 11 13 9 x ≡ 0
  unfolding mul quad
  m2 = by_bits (col2 2 3 1 1 14 11 13 9) (λ y. 0) (col2_linear 2 3 1 1 14 11 13 9) (λ y z. refl) 8 tt x h

  m3 : col3 2 3 1 1 14 11 13 9 x ≡ 0
  unfolding mul quad
  m3 = by_bits (col3 2 3 1 1 14 11 13 9) (λ y. 0) (col3_linear 2 3 1 1 14 11 13 9) (λ y z. refl) 8 tt x h

  m4 : col4 2 3 1 1 14 11 13 9 x ≡ 0
  unfolding mul quad
  m4 = by_bits (col4 2 3 1 1 14 11 13 9) (λ y. 0) (col4_linear 2 3 1 1 14 11 13 9) (λ y z. refl) 8 tt x h

module _ (a b c d : ℕ) (ha : a < 256) (hb : b < 256) (hc : c < 256) (hd : d < 256) where
  -- each matrix undoes the other
  pub unmix_mix : unmix_row (mix_row a b c d) (mix_row b c d a) (mix_row c d a b) (mix_row d a b c) ≡ a
  unfolding mix_row unmix_row
  unmix_mix =
      row-row 14 11 13 9 2 3 1 1 a b c d ∙ quad_first _ _ _ _ (u2 b hb) (u3 c hc) (u4 d hd) ∙ u1 a ha

  pub mix_unmix : mix_row (unmix_row a b c d) (unmix_row b c d a) (unmix_row c d a b) (unmix_row d a b c) ≡ a
  unfolding mix_row unmix_row
  mix_unmix =
      row-row 2 3 1 1 14 11 13 9 a b c d ∙ quad_first _ _ _ _ (m2 b hb) (m3 c hc) (m4 d hd) ∙ m1 a ha
