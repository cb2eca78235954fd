-- Sums of four: a row of a matrix of FIPS 197, 5.1.3 and 5.3.3, times a column is one.
use Prim.Native.Nat.{ℕ}
use mathlib.Core.Path.{◌≡◌, refl, sym, ◌∙◌, ap, ap₂}
use lib.Bits.{bit_xor, xor_zero_r, xor_comm}
use Rattle.octets.proofs.Xor.{xor_assoc, xor_swap}
use Rattle.sbox.specs.Field.{xtime, mul}
use Rattle.sbox.proofs.Linear.{xtime-xor, mul-xor}

unfoldable pub quad : ℕ → ℕ → ℕ → ℕ → ℕ
quad a b c d = bit_xor (bit_xor a b) (bit_xor c d)

-- the four may be read from the second on
pub quad_turn : (a b c d : ℕ) → quad a b c d ≡ quad b c d a
unfolding quad
quad_turn a b c d = ap (λ (x : ℕ). bit_xor x (bit_xor c d)) (xor_comm a b) ∙ xor_swap b a c d ∙ ap (bit_xor (bit_xor b c)) (xor_comm a d)

-- the sum of two sums of four
pub quad_xor : (a b c d a' b' c' d' : ℕ)
    → bit_xor (quad a b c d) (quad a' b' c' d') ≡ quad (bit_xor a a') (bit_xor b b') (bit_xor c c') (bit_xor d d')
unfolding quad
quad_xor a b c d a' b' c' d' =
    xor_swap (bit_xor a b) (bit_xor c d) (bit_xor a' b') (bit_xor c' d') ∙ ap₂ bit_xor (xor_swap a b a' b') (xor_swap c d c' d')

-- four rows of four are four columns of four
pub quad_quad : (a b c d a₁ b₁ c₁ d₁ a₂ b₂ c₂ d₂ a₃ b₃ c₃ d₃ : ℕ)
    → quad (quad a b c d) (quad a₁ b₁ c₁ d₁) (quad a₂ b₂ c₂ d₂) (quad a₃ b₃ c₃ d₃)
    ≡ quad (quad a a₁ a₂ a₃) (quad b b₁ b₂ b₃) (quad c c₁ c₂ c₃) (quad d d₁ d₂ d₃)
quad_quad a b c d a₁ b₁ c₁ d₁ a₂ b₂ c₂ d₂ a₃ b₃ c₃ d₃ =
    unfold quad in
    (ap₂ bit_xor (quad_xor a b c d a₁ b₁ c₁ d₁) (quad_xor a₂ b₂ c₂ d₂ a₃ b₃ c₃ d₃)
    ∙ quad_xor (bit_xor a a₁) (bit_xor b b₁) (bit_xor c c₁) (bit_xor d d₁) (bit_xor a₂ a₃) (bit_xor b₂ b₃) (bit_xor c₂ c₃) (bit_xor d₂ d₃))

-- three of four are nothing
pub quad_first : (a b c d : ℕ) → b ≡ 0 → c ≡ 0 → d ≡ 0 → quad a b c d ≡ a
unfolding quad
quad_first a b c d p q r = rw (p, q, r) (ap (λ (x : ℕ). bit_xor x 0) (xor_zero_r a) ∙ xor_zero_r a)

-- equal terms make equal sums
pub quad_ap : {a a' b b' c c' d d' : ℕ} → a ≡ a' → b ≡ b' → c ≡ c' → d ≡ d' → quad a b c d ≡ quad a' b' c' d'
quad_ap p q r s = λ i. quad (p i) (q i) (r i) (s i)

-- a sum taken from the left
pub quad_left : (a b c d : ℕ) → bit_xor (bit_xor (bit_xor a b) c) d ≡ quad a b c d
unfolding quad
quad_left a b c d = xor_assoc (bit_xor a b) c d

-- sums of four with nothing in some places
pub quad_234 : (b c d : ℕ) → bit_xor b (bit_xor c d) ≡ quad 0 b c d
unfolding quad
quad_234 b c d = refl

pub quad_12 : (a b : ℕ) → bit_xor a b ≡ quad a b 0 0
unfolding quad
quad_12 a b = sym (xor_zero_r (bit_xor a b))

pub quad_13 : (a c : ℕ) → bit_xor a c ≡ quad a 0 c 0
unfolding quad
quad_13 a c = ap₂ bit_xor (sym (xor_zero_r a)) (sym (xor_zero_r c))

-- products of a sum of four
pub mul_quad : (p a b c d : ℕ) → mul p (quad a b c d) ≡ quad (mul p a) (mul p b) (mul p c) (mul p d)
unfolding quad
mul_quad p a b c d = mul-xor p (bit_xor a b) (bit_xor c d) ∙ ap₂ bit_xor (mul-xor p a b) (mul-xor p c d)

pub xtime_quad : (a b c d : ℕ) → xtime (quad a b c d) ≡ quad (xtime a) (xtime b) (xtime c) (xtime d)
unfolding quad
xtime_quad a b c d = xtime-xor (bit_xor a b) (bit_xor c d) ∙ ap₂ bit_xor (xtime-xor a b) (xtime-xor c d)
