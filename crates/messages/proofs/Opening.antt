-- A response that passes its tests and whose blocks are all of the right types.
use Prim.Native.Nat.{ℕ, ◌≤◌}
use native.Mathlib.Omega.{arith}
use mathlib.Core.Bool.{Bool, true}
use mathlib.Core.List.{List}
use mathlib.Core.Path.{◌≡◌, sym, ◌∙◌, ap}
use lib.ListN.{length, get_or}
use borrow.Author.Tests.{eqb-true}
use Rattle.std.proofs.lemmas.Bool.Decides.{nat_tests}
use Rattle.refusal.specs.Order.{Res, accept, need}
use Rattle.refusal.proofs.Order.{need_inv, then_accept}
use Rattle.octets.specs.Number.{unle}
use Rattle.octets.specs.Place.{part, filled}
use Rattle.octets.proofs.Filled.{filled-part}
use Rattle.messages.specs.Auth.{is_level}
use Rattle.messages.specs.Block.{block_of, of_type}
use Rattle.messages.specs.OpenSession.{Response, open_checked, open_numbers, open_fields}

-- what was answered of bytes holds of the bytes that are the same
pub cut_answer : (t : ℕ) (b p : List ℕ) (A R : Res ℕ) → b ≡ p → A ≡ of_type t (block_of b) → A ≡ R → of_type t (block_of p) ≡ R
cut_answer t b p A R e f g = ap (λ (l : List ℕ). of_type t (block_of l)) (sym e) ∙ sym f ∙ g

module _ (m : List ℕ) where
  pub fields_all : (a : ℕ) → of_type 0 (block_of (part m 12 8)) ≡ accept a → (i : ℕ) → of_type 1 (block_of (part m 20 8)) ≡ accept i
      → (c : ℕ) (r : Response) → of_type 2 (block_of (part m 28 8)) ≡ accept c → r ≡ open_numbers m a i c → accept r ≡ open_fields m
  unfolding open_fields
  fields_all a e i f c r g h = ap accept h ∙ sym (then_accept _ _ a e ∙ then_accept _ _ i f ∙ then_accept _ _ c g)

  pub open_passed : 2 ≤ length m → get_or m 1 0 ≡ 0 → length m ≡ 36 → (t : Bool) → t ≡ is_level (get_or m 2 0) → t ≡ true
      → (unle (part m 4 4) ≡ 0 → ⊥) → (unle (part m 8 4) ≡ 0 → ⊥) → accept tt ≡ open_checked m
  unfolding open_checked need
  open_passed h g k t f z y x = let l : is_level (get_or m 2 0) ≡ true = sym f ∙ z in grind (arith, nat_tests)

  -- none of its blocks is cut short by the message's end
  pub first_whole : length m ≡ 36 → filled 8 (part m 12 8) ≡ part m 12 8
  first_whole k = filled-part 8 m 12 (omega arith)

  pub second_whole : length m ≡ 36 → filled 8 (part m 20 8) ≡ part m 20 8
  second_whole k = filled-part 8 m 20 (omega arith)

  pub third_whole : length m ≡ 36 → filled 8 (part m 28 8) ≡ part m 28 8
  third_whole k = filled-part 8 m 28 (omega arith)

  pub open_size : open_checked m ≡ accept tt → length m ≡ 36
  unfolding open_checked
  open_size e =
      let a = need_inv _ _ _ _ e in
      let b = need_inv _ _ _ _ a.1 in
      let d = need_inv _ _ _ _ b.1 in
      eqb-true _ _ d.0
