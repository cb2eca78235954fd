-- A list by the rule of its elements, f 0, f 1, .. , f (n - 1): FIPS 197, 5.1 and 5.3, and SP 800-38A, 6.2, give blocks so,
-- byte by byte.
use Rattle.std.specs.Prelude.{ℕ, zero, suc, List, [], ◌∷◌}

abbrev pub tab : ℕ → (ℕ → ℕ) → List ℕ
tab zero f = []
tab (suc n) f = f 0 ∷ tab n (λ i. f (suc i))
