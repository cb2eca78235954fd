-- The role byte, of a level that Begin takes: the level in its low four bits, the lookup in bit 4, and nothing else.
use Rattle.std.specs.Prelude.{Option, Some, None}
use Prim.Native.Nat.{ℕ, ◌*◌, ◌%◌, ◌/◌, ◌≤◌, ◌<◌}
use native.Mathlib.Omega.{arith}
use mathlib.Core.Bool.{true, and-eq-true_iff}
use mathlib.Core.Logic.{◌↔◌}
use mathlib.Core.Path.{◌≡◌, refl, ◌∙◌, ap}
use lib.Dec.{leb}
use borrow.Author.Tests.{leb-true}
use Rattle.messages.specs.Auth.{is_level}
use Rattle.session.specs.Role.{level_of, lookup_bit, role_of}
use Rattle.session.specs.Steps.{level_allowed}
use Rattle.session.specs.declared.Lookup.{Lookup}
use Rattle.session.specs.declared.Lookup.TheVariants.{NameAndLevel, NameOnly}

level_legal : (l : Option ℕ) → level_allowed l ≡ true → is_level (level_of l) ≡ true
unfolding is_level
level_legal None h = refl
level_legal (Some b) h = h

pub level_most : (b : ℕ) → is_level b ≡ true → b ≤ 5
unfolding is_level
level_most b h = leb-true b 5 ((and-eq-true_iff (leb 1 b) (leb b 5)).0 h).1

module _ (l : Option ℕ) (h : level_allowed l ≡ true) where
  pub level_small : level_of l ≤ 5
  level_small = level_most (level_of l) (level_legal l h)

  -- what a system reads: the level, the lookup, and no bit above
  pub role_level : (k : Lookup) → role_of l k % 16 ≡ level_of l
  unfolding role_of
  role_level NameAndLevel = let g = level_small in omega arith
  role_level NameOnly = let g = level_small in omega arith

  pub role_lookup : (k : Lookup) → (role_of l k / 16) * 16 ≡ lookup_bit k
  unfolding role_of
  role_lookup NameAndLevel = let g = level_small in omega arith
  role_lookup NameOnly = let g = level_small in omega arith

  pub role_short : (k : Lookup) → role_of l k < 32
  unfolding role_of
  role_short NameAndLevel = let g = level_small in omega arith
  role_short NameOnly = let g = level_small in omega arith

  pub role_legal : (k : Lookup) → is_level (role_of l k % 16) ≡ true
  role_legal k = ap is_level (role_level k) ∙ level_legal l h

-- 04, the only role that the Rust has, is asked for by level 4 or none, looked up by name and level
pub role_is_04 : (l : Option ℕ) (k : Lookup) → (role_of l k ≡ 0x04) ↔ ((level_of l ≡ 0x04) × (k ≡ NameAndLevel))
unfolding role_of
role_is_04 l NameAndLevel = ((λ e. (omega arith, refl)), (λ e. omega arith))
role_is_04 l NameOnly = ((λ e. absurd (omega arith)), (λ e. let z = ap lookup_bit e.1 in absurd (omega arith)))
