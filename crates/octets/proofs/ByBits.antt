-- Two linear rules that agree at each power of two agree at each sum of them: so a test of eight bits serves all bytes.
use Prim.Native.Nat.{ℕ, zero, suc, ◌*◌, ◌/◌, ◌%◌, ◌^◌, ◌<◌}
use native.Mathlib.Nat.{zero-mul, one-mul, div-add-mod', mod-lt, div-lt_iff_lt-mul, pow-suc, mul_comm}
use native.Mathlib.Omega.{arith}
use mathlib.Core.Path.{◌≡◌, sym, ◌∙◌, ap, ap₂, subst}
use lib.Bits.{bit_xor, xor_self, xor_shifted}
use lib.Dec.{T, eqb}
use lib.Pow.{pow_pos}
use Rattle.octets.proofs.Agree.{all, agree}
use Rattle.octets.proofs.Xor.{digits}

abbrev pub Linear : (ℕ → ℕ) → Type 0
Linear f = (x y : ℕ) → f (bit_xor x y) ≡ bit_xor (f x) (f y)

none : (f : ℕ → ℕ) → Linear f → f 0 ≡ 0
none f l = l 0 0 ∙ xor_self (f 0)

-- the top bit and the rest
split : (n x : ℕ) → bit_xor (x / 2 ^ n * 2 ^ n) (x % 2 ^ n) ≡ x
split n x = xor_shifted (x / 2 ^ n) n (x % 2 ^ n) (mod-lt x (pow_pos n)) ∙ div-add-mod' x (2 ^ n)

top_lt : (n x : ℕ) → x < 2 ^ suc n → x / 2 ^ n < 2
top_lt n x h = (div-lt_iff_lt-mul (pow_pos n)).1 (subst (λ (m : ℕ). x < m) (pow-suc 2 n ∙ mul_comm (2 ^ n) 2) h)

module _ (f g : ℕ → ℕ) (lf : Linear f) (lg : Linear g) where
  from : (m : ℕ) → ((k : ℕ) → k < m → f (2 ^ k) ≡ g (2 ^ k)) → (x : ℕ) → x < 2 ^ m → f x ≡ g x
  from zero e x h =
      let z : x ≡ 0 = omega arith in
      ap f z ∙ none f lf ∙ sym (none g lg) ∙ ap g (sym z)
  from (suc m) e x h =
      ap f (sym (split m x)) ∙ lf _ _
      ∙ ap₂ bit_xor
      (digits (λ (b : ℕ). f (b * 2 ^ m) ≡ g (b * 2 ^ m))
      (ap f (zero-mul (2 ^ m)) ∙ none f lf ∙ sym (none g lg) ∙ ap g (sym (zero-mul (2 ^ m))))
      (ap f (one-mul (2 ^ m)) ∙ e m (omega arith) ∙ ap g (sym (one-mul (2 ^ m))))
      (x / 2 ^ m) (top_lt m x h))
      (from m (λ k l. e k (omega arith)) (x % 2 ^ m) (mod-lt x (pow_pos m)))
      ∙ sym (lg _ _) ∙ ap g (split m x)

  pub by_bits : (n : ℕ) → T (all (λ k. eqb (f (2 ^ k)) (g (2 ^ k))) n) → (x : ℕ) → x < 2 ^ n → f x ≡ g x
  by_bits n t = from n (agree (λ k. f (2 ^ k)) (λ k. g (2 ^ k)) n t)
