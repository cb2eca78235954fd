-- Laws of tests: the types, the bits.
use Prim.Native.Nat.{ℕ, zero, suc, ◌+◌, ◌-◌, ◌*◌, ◌/◌, ◌%◌, ◌≤◌, ◌<◌}
use native.Mathlib.Omega.{arith}
use mathlib.Core.Bool.{Bool, true, false, false≢true, ◌&&◌, ◌||◌}
use mathlib.Core.List.{List, [], ◌∷◌}
use mathlib.Core.Path.{◌≡◌, refl, sym, ◌∙◌, ap}
use lib.Dec.{eqb, ltb}
use borrow.Author.Tests.{eqb-true, ltb-true}
use Rattle.refusal.specs.Table.{among}
use Rattle.octets.proofs.Equal.{and_inv}
use Rattle.octets.proofs.Order.{by_cases}
use Rattle.framing.specs.Known.{known, type_numbers}
use Rattle.framing.specs.Packet.{bit}

pub bit_small : (b : Bool) → bit b ≤ 1
bit_small true = omega arith
bit_small false = omega arith

-- the second byte gives back the type and the two bits
pub flag_type : (a g : Bool) (t : ℕ) → t < 64 → (128 * bit a + 64 * bit g + t) % 64 ≡ t
flag_type true true t h = omega arith
flag_type true false t h = omega arith
flag_type false true t h = omega arith
flag_type false false t h = omega arith

pub flag_seven : (a g : Bool) (t : ℕ) → t < 64 → (128 * bit a + 64 * bit g + t) / 128 % 2 ≡ bit a
flag_seven true true t h = omega arith
flag_seven true false t h = omega arith
flag_seven false true t h = omega arith
flag_seven false false t h = omega arith

pub flag_six : (a g : Bool) (t : ℕ) → t < 64 → (128 * bit a + 64 * bit g + t) / 64 % 2 ≡ bit g
flag_six true true t h = omega arith
flag_six true false t h = omega arith
flag_six false true t h = omega arith
flag_six false false t h = omega arith

-- the test of every element
below : ℕ → List ℕ → Bool
below k [] = true
below k (x ∷ l) = ltb x k && below k l

among_below : (k x : ℕ) (l : List ℕ) → below k l ≡ true → among x l ≡ true → x < k
unfolding below
among_below k x [] e f = absurd (false≢true f)
among_below k x (y ∷ l) e f =
    let both = and_inv (ltb y k) (below k l) e in
    by_cases (eqb x y)
    (λ h. omega (arith, ltb-true y k both.0, eqb-true x y h))
    (λ h. among_below k x l both.1 (sym (ap (λ (b : Bool). b || among x l) h) ∙ f))

-- a type fits into six bits
pub known_small : (t : ℕ) → known t ≡ true → t < 64
unfolding known below
known_small t e = among_below 64 t type_numbers refl e

low_bit : (x : ℕ) → x ≤ 1 → x % 2 ≡ x
low_bit zero h = refl
low_bit (suc zero) h = refl
low_bit (suc (suc x)) h = let z : ◌≡◌ {A = ℕ} 0 1 = omega arith in omega arith

-- and what the second byte is, by its bits and the rest
pub flags_back : (a g : Bool) (b t : ℕ) → b < 256 → b / 128 % 2 ≡ bit a → b / 64 % 2 ≡ bit g → t ≡ b % 64 → 128 * bit a + 64 * bit g + t ≡ b
flags_back a g b t h s x e =
    let high : b / 128 ≡ bit a = sym (low_bit (b / 128) (omega arith)) ∙ s in
    let rest : b / 64 - 2 * (b / 128) ≤ 1 = omega arith in
    let twice : (b / 64) % 2 ≡ (b / 64 - 2 * (b / 128)) % 2 = omega arith in
    let low : b / 64 - 2 * (b / 128) ≡ bit g = sym (low_bit _ rest) ∙ sym twice ∙ x in
    omega arith
