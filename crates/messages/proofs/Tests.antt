-- What the library's words say of ours; and what a row of tests answers a message of known tests.
use Prim.Native.Nat.{ℕ, ◌≤◌}
use native.Mathlib.Omega.{arith}
use mathlib.Core.Bool.{Bool, not, ◌&&◌, ◌||◌}
use mathlib.Core.List.{List, [], ◌∷◌}
use mathlib.Core.Path.{◌≡◌, refl, ap₂}
use lib.Dec.{eqb, ltb}
use lib.ListN.{length, get_or}
use Rattle.std.specs.List.{list_any, list_all}
use Rattle.std.proofs.lemmas.Bool.Decides.{nat_tests}
use Rattle.refusal.specs.Order.{refuse, accept, need}
use Rattle.refusal.specs.Table.{among}
use Rattle.octets.specs.Number.{unle}
use Rattle.octets.specs.Place.{part}
use Rattle.messages.specs.Name.{allowed}
use Rattle.messages.specs.Status.{status_number}
use Rattle.messages.specs.Rakp.{checked}

-- a list is searched for an element that equals b, or for one that b equals
turned : (a b : ℕ) → eqb a b ≡ eqb b a
turned a b = grind (arith, nat_tests)

pub listed : (b : ℕ) (l : List ℕ) → list_any (λ x. eqb x b) l ≡ among b l
listed b [] = refl
listed b (x ∷ l) = ap₂ ◌||◌ (turned x b) (listed b l)

-- whether all bytes of a name are allowed, as a test of each
pub allowed_each : (l : List ℕ) → list_all (λ b. not (eqb b 0) && ltb b 128) l ≡ allowed l
allowed_each [] = refl
allowed_each (b ∷ l) = rw (← allowed_each l) (both (not (eqb b 0)) (ltb b 128) _)
  where
    both : (x y z : Bool) → ((x && y) && z) ≡ (x && (y && z))
    both x y z = grind arith

module _ (names : List ℕ) (fixed n v : ℕ) (m : List ℕ) (h : 4 ≤ length m) where
  -- a status that is not zero decides
  pub checked_status : (get_or m 1 0 ≡ 0 → ⊥) → refuse (status_number names (get_or m 1 0)) (get_or m 1 0) ≡ checked names fixed n v m
  unfolding checked need
  checked_status g = grind (arith, nat_tests)

  -- what passes
  pub checked_passed : get_or m 1 0 ≡ 0 → fixed ≤ length m → (unle (part m 4 4) ≡ 0 → ⊥) → accept tt ≡ checked names fixed n v m
  unfolding checked need
  checked_passed g k z = grind (arith, nat_tests)
