-- Laws of names: how many bytes a name has, how it is stored, and what a name is that was taken.
use Prim.Native.Nat.{ℕ, ◌<◌, ◌≤◌, min}
use native.Mathlib.Omega.{arith}
use mathlib.Core.Bool.{true}
use mathlib.Core.List.{List}
use mathlib.Core.Logic.{inl, inr}
use mathlib.Core.Path.{◌≡◌, refl, sym, ◌∙◌, ap, subst}
use lib.ListN.{length, take}
use lib.Seq.{take_all, take_at, length-take-le}
use borrow.Author.Tests.{leb-true, lt-leb}
use Rattle.std.specs.Prelude.{Result}
use Rattle.refusal.specs.Order.{Res, refuse, accept}
use Rattle.refusal.proofs.Order.{accept_inj, need_inv, need_no}
use Rattle.octets.proofs.Order.{lt_or_le}
use Rattle.octets.specs.Place.{part, filled}
use Rattle.messages.specs.Name.{allowed, longest_name, username_of, name_of, stored}
use Rattle.messages.specs.Promises.{NamePromise}
use Rattle.refusal.specs.declared.Refusal.{Refusal}
use Rattle.messages.specs.declared.rakp_1.Username.{Username}

-- a name has as many bytes as its length says, or sixteen where that is more
pub name_counted : (u : Username) (n : ℕ) → length u.bytes ≡ 16 → n ≡ min u.len 16
    → (n ≡ length (name_of u)) × (n ≤ 16) × (take n u.bytes ≡ name_of u)
unfolding name_of
name_counted u n e f =
    elim (lt_or_le 16 u.len) [
      | inl h ↦
          let k : n ≡ 16 = omega arith in
          let t : take u.len u.bytes ≡ u.bytes = take_all _ _ (omega arith) in
          (k ∙ sym e ∙ sym (ap length t), omega arith, take_all _ _ (omega arith) ∙ sym t)
      | inr h ↦
          let k : n ≡ u.len = omega arith in
          (k ∙ sym (length-take-le _ _ (omega arith)), omega arith, ap (λ (m : ℕ). take m u.bytes) k)
    ]

-- sixteen bytes from a list's start are the bytes that are stored
pub stored_filled : (l : List ℕ) → length l ≤ 16 → record { bytes = filled 16 (part l 0 16); len = length l } ≡ stored l
unfolding stored filled
stored_filled l h =
    let e : take 16 l ≡ l = take_all _ _ h in
    ap (λ (x : List ℕ). record { bytes = filled 16 x; len = length l }) e

-- a name that was stored is held whole
pub stored_whole : (n : List ℕ) → name_of (stored n) ≡ n
unfolding name_of stored
stored_whole n = take_at n _ (length n) refl

-- what a name is that was taken
pub taken_name : (l n : List ℕ) → username_of l ≡ accept n → (length l ≤ longest_name) × (allowed l ≡ true) × (l ≡ n)
unfolding username_of
taken_name l n e =
    let a = need_inv _ _ _ _ e in
    let b = need_inv _ _ _ _ a.1 in
    (leb-true _ _ a.0, b.0, accept_inj _ _ b.1)

-- and which is refused as too long
pub name_long : (l : List ℕ) (z : Result Username Refusal) → NamePromise (refuse 40 0) z → longest_name < length l → NamePromise (username_of l) z
unfolding username_of
name_long l z p h =
    let e : username_of l ≡ refuse 40 0 = need_no _ _ _ _ (lt-leb (length l) longest_name h) in
    subst (λ (R : Res (List ℕ)). NamePromise R z) (sym e) p
