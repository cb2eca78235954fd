-- Laws of the sum bit by bit, `bit_xor`, over all numbers.
use Prim.Native.Nat.{ℕ, zero, suc, ◌+◌, ◌*◌, ◌/◌, ◌%◌, ◌<◌}
use mathlib.Core.Path.{◌≡◌, refl, sym, ◌∙◌, ap, ap₂}
use native.Mathlib.Nat.{zero-mul, one-mul, add-zero}
use native.Mathlib.Omega.{arith}
use lib.Arith.{bin_ind}
use lib.Bits.{bit_xor, differ, xor_step, xor_zero_r, xor_comm, xor_self, xor_shr, xor_lt, xor_block}

-- what is below two is a digit
pub digits : (P : ℕ → Type 0) → P 0 → P 1 → (n : ℕ) → n < 2 → P n
digits P z o zero h = z
digits P z o (suc zero) h = o
digits P z o (suc (suc n)) h = absurd (omega arith)

pub odd_lt : (a : ℕ) → a % 2 < 2
odd_lt a = omega arith

differ_lt : (x : ℕ) → x < 2 → (y : ℕ) → y < 2 → differ x y < 2
differ_lt = digits (λ (x : ℕ). (y : ℕ) → y < 2 → differ x y < 2) (λ y h. h) (digits (λ (y : ℕ). differ 1 y < 2) (omega arith) (omega arith))

differ_assoc : (x : ℕ) → x < 2 → (y : ℕ) → y < 2 → (z : ℕ) → z < 2 → differ (differ x y) z ≡ differ x (differ y z)
differ_assoc =
    digits (λ (x : ℕ). (y : ℕ) → y < 2 → (z : ℕ) → z < 2 → differ (differ x y) z ≡ differ x (differ y z)) (λ y h z g. refl)
    (digits (λ (y : ℕ). (z : ℕ) → z < 2 → differ (differ 1 y) z ≡ differ 1 (differ y z)) (λ z g. refl)
    (digits (λ (z : ℕ). differ 0 z ≡ differ 1 (differ 1 z)) refl refl))

pub xor_half : (a b : ℕ) → bit_xor a b / 2 ≡ bit_xor (a / 2) (b / 2)
xor_half a b = xor_shr a b 1

pub xor_odd : (a b : ℕ) → bit_xor a b % 2 ≡ differ (a % 2) (b % 2)
xor_odd a b = omega (arith, xor_step a b, differ_lt (a % 2) (odd_lt a) (b % 2) (odd_lt b))

pub xor_assoc : (a b c : ℕ) → bit_xor (bit_xor a b) c ≡ bit_xor a (bit_xor b c)
xor_assoc =
    bin_ind (λ (n : ℕ). (b c : ℕ) → bit_xor (bit_xor n b) c ≡ bit_xor n (bit_xor b c)) (λ b c. refl)
    (λ n ih b c.
    xor_step (bit_xor n b) c
    ∙ ap₂ (λ (x y : ℕ). x * 2 + y)
    (ap (λ (x : ℕ). bit_xor x (c / 2)) (xor_half n b) ∙ ih (b / 2) (c / 2) ∙ ap (bit_xor (n / 2)) (sym (xor_half b c)))
    (ap (λ (x : ℕ). differ x (c % 2)) (xor_odd n b)
    ∙ differ_assoc (n % 2) (odd_lt n) (b % 2) (odd_lt b) (c % 2) (odd_lt c)
    ∙ ap (differ (n % 2)) (sym (xor_odd b c)))
    ∙ sym (xor_step n (bit_xor b c)))

-- two sums of two, column by column
pub xor_swap : (a b c d : ℕ) → bit_xor (bit_xor a b) (bit_xor c d) ≡ bit_xor (bit_xor a c) (bit_xor b d)
xor_swap a b c d =
    xor_assoc a b (bit_xor c d)
    ∙ ap (bit_xor a) (sym (xor_assoc b c d) ∙ ap (λ (x : ℕ). bit_xor x d) (xor_comm b c) ∙ xor_assoc c b d)
    ∙ sym (xor_assoc a c (bit_xor b d))

-- what is added twice is gone
pub xor_twice : (a b : ℕ) → bit_xor (bit_xor a b) b ≡ a
xor_twice a b = xor_assoc a b b ∙ ap (bit_xor a) (xor_self b) ∙ xor_zero_r a

-- a sum of digits times a number
pub xor_times : (c p : ℕ) → p < 2 → (q : ℕ) → q < 2 → bit_xor p q * c ≡ bit_xor (p * c) (q * c)
xor_times c =
    digits (λ (p : ℕ). (q : ℕ) → q < 2 → bit_xor p q * c ≡ bit_xor (p * c) (q * c)) (λ q h. rw zero-mul)
    (digits (λ (q : ℕ). bit_xor 1 q * c ≡ bit_xor (1 * c) (q * c))
    (rw (zero-mul, one-mul) (sym (xor_zero_r c))) (rw (zero-mul, one-mul) (sym (xor_self c))))

-- a digit times a sum
pub times_xor : (x y d : ℕ) → d < 2 → d * bit_xor x y ≡ bit_xor (d * x) (d * y)
times_xor x y = digits (λ (d : ℕ). d * bit_xor x y ≡ bit_xor (d * x) (d * y)) (simp zero-mul) (simp one-mul)

pub double_xor : (x y : ℕ) → bit_xor x y * 2 ≡ bit_xor (x * 2) (y * 2)
double_xor x y =
    sym (add-zero (bit_xor x y * 2))
    ∙ sym (xor_block 1 x y 0 0 (omega arith) (omega arith))
    ∙ ap₂ bit_xor (add-zero (x * 2)) (add-zero (y * 2))

-- the sum of two bytes is a byte
pub xor_byte : (a b : ℕ) → a < 256 → b < 256 → bit_xor a b < 256
xor_byte = xor_lt 8
