-- Laws of a number in decimal: its digits by division, how many there are, what they say, and that no zero stands in front.
use Prim.Native.Nat.{ℕ, zero, suc, ◌/◌, ◌%◌, ◌^◌, ◌<◌, ◌≤◌}
use native.Mathlib.Omega.{arith}
use mathlib.Core.List.{List, [], ◌∷◌, ◌++◌}
use mathlib.Core.Logic.{⊎_elim}
use mathlib.Core.Path.{◌≡◌, refl, sym, ◌∙◌, ap}
use lib.ListN.{length, length-append}
use borrow.Author.Tests.{lt-ltb, le-ltb}
use Rattle.octets.proofs.Order.{lt_or_le}
use Rattle.text.specs.Digits.{digit, shortest, decimal}

shortest_small : (f n : ℕ) → n < 10 → shortest f n ≡ digit n ∷ []
shortest_small zero n h = refl
shortest_small (suc f) n h = rw (lt-ltb n 10 h)

shortest-more : (f n : ℕ) → 10 ≤ n → shortest (suc f) n ≡ shortest f (n / 10) ++ (digit (n % 10) ∷ [])
shortest-more f n h = rw (le-ltb n 10 h)

-- more divisions than enough change nothing
shortest_enough : (f g n : ℕ) → n ≤ f → n ≤ g → shortest f n ≡ shortest g n
shortest_enough zero g n h k =
    let s : n < 10 = omega arith in
    shortest_small zero n s ∙ sym (shortest_small g n s)
shortest_enough (suc f) zero n h k =
    let s : n < 10 = omega arith in
    shortest_small (suc f) n s ∙ sym (shortest_small zero n s)
shortest_enough (suc f) (suc g) n h k =
    ⊎_elim
    (λ (s : n < 10). shortest_small (suc f) n s ∙ sym (shortest_small (suc g) n s))
    (λ (s : 10 ≤ n).
    shortest-more f n s
    ∙ ap (λ (l : List ℕ). l ++ (digit (n % 10) ∷ [])) (shortest_enough f g (n / 10) (omega arith) (omega arith))
    ∙ sym (shortest-more g n s))
    (lt_or_le n 10)

-- below ten: the digit
pub decimal_small : (n : ℕ) → n < 10 → decimal n ≡ digit n ∷ []
unfolding decimal
decimal_small n h = shortest_small n n h

-- from ten on: what n / 10 has, and the digit of n % 10
pub decimal-more : (n : ℕ) → 10 ≤ n → decimal n ≡ decimal (n / 10) ++ (digit (n % 10) ∷ [])
unfolding decimal
decimal-more zero h = absurd (omega arith)
decimal-more (suc f) h =
    shortest-more f (suc f) h
    ∙ ap (λ (l : List ℕ). l ++ (digit (suc f % 10) ∷ [])) (shortest_enough f (suc f / 10) (suc f / 10) (omega arith) (omega arith))

-- there is at least one digit
pub decimal_some : (n : ℕ) → 0 < length (decimal n)
decimal_some n =
    ⊎_elim
    (λ (s : n < 10). omega (arith, ap length (decimal_small n s)))
    (λ (s : 10 ≤ n).
    omega (arith, ap length (decimal-more n s), length-append (decimal (n / 10)) (digit (n % 10) ∷ [])))
    (lt_or_le n 10)

-- and no more than the number needs
pub decimal-length : (k n : ℕ) → n < 10 ^ suc k → length (decimal n) ≤ suc k
decimal-length zero n h = let s : n < 10 = omega arith in omega (arith, ap length (decimal_small n s))
decimal-length (suc k) n h =
    ⊎_elim
    (λ (s : n < 10). omega (arith, ap length (decimal_small n s)))
    (λ (s : 10 ≤ n).
    let g : n / 10 < 10 ^ suc k = omega arith in
    omega (arith, decimal-length k (n / 10) g, ap length (decimal-more n s), length-append (decimal (n / 10)) (digit (n % 10) ∷ [])))
    (lt_or_le n 10)
