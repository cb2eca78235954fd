-- The two affine maps undo one another on bytes.
use Prim.Native.Nat.{ℕ, ◌<◌}
use mathlib.Core.Path.{◌≡◌}
use Rattle.octets.proofs.Agree.{agree}
use Rattle.sbox.specs.Substitution.{affine, unaffine}

-- the bits of the inverse substitution's map undo those of the substitution's
pub unaffine-affine : (a : ℕ) → a < 256 → unaffine (affine a) ≡ a
unfolding affine unaffine
unaffine-affine = agree (λ a. unaffine (affine a)) (λ a. a) 256 tt

pub affine-unaffine : (a : ℕ) → a < 256 → affine (unaffine a) ≡ a
unfolding affine unaffine
affine-unaffine = agree (λ a. affine (unaffine a)) (λ a. a) 256 tt
