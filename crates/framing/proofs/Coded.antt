-- The code that is computed for a packet, and what the reader tells with it.
use Prim.Native.Nat.{ℕ, ◌≤◌, ◌<◌}
use mathlib.Core.Bool.{Bool, true, false, false≢true, cond, ◌&&◌}
use mathlib.Core.List.{List}
use mathlib.Core.Path.{◌≡◌, refl, sym, ◌∙◌, ap}
use lib.ListN.{length, take}
use lib.Dec.{leb}
use borrow.Author.Tests.{leb-true, le-leb, lt-leb}
use Rattle.refusal.specs.Order.{Res, refuse, accept, and_then}
use Rattle.refusal.proofs.Order.{then_refuse, then_accept, need_no}
use Rattle.octets.proofs.Order.{lt_or_le}
use mathlib.Core.Logic.{⊎_elim}
use Rattle.framing.specs.Suite.{Suite}
use Rattle.framing.specs.Read.{message_of, head_of, coverage, code_of, trailer_of, before_trailer, body_in, payload_behind, rest_of, read_with, read_of}
use Rattle.framing.specs.Read.{accepts, has_code, compares_code, blocks_with, blocks_of, Computed}
use Rattle.framing.specs.Told.{Shown, shown}
use Rattle.octets.proofs.Equal.{and_inv}
use Rattle.octets.proofs.Order.{by_cases, cond_true, cond_false}
use Rattle.framing.proofs.Rest.{shown_stop}

-- with no code to compare none is computed
module _ (S : Suite) (l code : List ℕ) where
  pub computed_none : (n : ℕ) → has_code S l ≡ false → n ≡ 0 → Computed S l code n
  computed_none n e f = record {
    right = λ h. absurd (false≢true (sym e ∙ h));
    count = f ∙ sym (cond_false (has_code S l) (S.blocks (coverage S l)) 0 e);
  }

  pub computed_done : (n : ℕ) → has_code S l ≡ true → code ≡ code_of S l → n ≡ S.blocks (coverage S l) → Computed S l code n
  computed_done n h e f = record { right = λ _. e; count = f ∙ sym (cond_true (has_code S l) (S.blocks (coverage S l)) 0 h) }

-- the two tests of `has_code`, as the code makes them
module _ (S : Suite) (l : List ℕ) where
  pub code_fits : (b : Bool) → S.auth ≡ true → b ≡ leb S.m (length l) → b ≡ has_code S l
  code_fits b e f = f ∙ sym (ap (λ (x : Bool). x && leb S.m (length l)) e)

  pub code_within : has_code S l ≡ true → S.m ≤ length l
  code_within h = leb-true S.m (length l) (and_inv S.auth (leb S.m (length l)) h).1

-- where no code is compared, any will do
module _ (S : Suite) (code other l : List ℕ) (same_code : has_code S l ≡ true → code ≡ other) where
  any_code : before_trailer S code l ≡ before_trailer S other l
  unfolding before_trailer trailer_of
  any_code =
      by_cases S.auth
      (λ a. ⊎_elim
      (λ (g : length l < S.m).
      let none : leb S.m (length l) ≡ false = lt-leb S.m (length l) g in
      cond_true S.auth (trailer_of S code l) (accept (length l)) a
      ∙ need_no _ 6 0 _ none ∙ sym (need_no _ 6 0 _ none)
      ∙ sym (cond_true S.auth (trailer_of S other l) (accept (length l)) a))
      (λ (g : S.m ≤ length l).
      ap (λ (x : List ℕ). cond S.auth (trailer_of S x l) (accept (length l)))
      (same_code (sym (code_fits S l true a (sym (le-leb S.m (length l) g))))))
      (lt_or_le (length l) S.m))
      (λ a. cond_false S.auth (trailer_of S code l) (accept (length l)) a
      ∙ sym (cond_false S.auth (trailer_of S other l) (accept (length l)) a))

  any_rest : (ty : ℕ) → rest_of S code l ty ≡ rest_of S other l ty
  unfolding rest_of payload_behind
  any_rest ty = ap (λ (x : Res ℕ). and_then (and_then x (λ n. body_in S (take n l))) (λ payload. accept (message_of ty l payload))) any_code

  pub any_read : read_with S code l ≡ read_with S other l
  unfolding read_with and_then
  any_read = by (head_of S l)
    where
      by : (r : Res ℕ) → and_then r (rest_of S code l) ≡ and_then r (rest_of S other l)
      by (refuse n v) = refl
      by (accept ty) = any_rest ty

-- the order with a code that is handed in: the head decides, or what stands behind it
module _ (S : Suite) (l code : List ℕ) (n : ℕ) where
  pub told_refused : (k v : ℕ) (x : Res ℕ) → x ≡ head_of S l → x ≡ refuse k v → (refuse k v ≡ shown (read_with S code l)) × (0 ≡ blocks_with S n l)
  unfolding read_with blocks_with compares_code
  told_refused k v x h e = (
    sym (shown_stop (read_with S code l) k v (then_refuse (head_of S l) (rest_of S code l) k v (sym h ∙ e))),
    sym (ap (λ (y : Res ℕ). cond (accepts y && has_code S l) n 0) (sym h ∙ e)),
  )

  pub told_behind : (ty b : ℕ) (a : Res Shown) → head_of S l ≡ accept ty → a ≡ shown (rest_of S code l ty) → b ≡ cond (has_code S l) n 0
      → (a ≡ shown (read_with S code l)) × (b ≡ blocks_with S n l)
  unfolding read_with blocks_with compares_code
  told_behind ty b a h e f = (
    e ∙ ap shown (sym (then_accept (head_of S l) (rest_of S code l) ty h)),
    f ∙ ap (λ (x : Res ℕ). cond (accepts x && has_code S l) n 0) (sym h),
  )

-- given the right code and its count, that is what reading finds and tells
module _ (S : Suite) (l code : List ℕ) where
  pub right_read : (has_code S l ≡ true → code ≡ code_of S l) → read_with S code l ≡ read_of S l
  unfolding read_of
  right_read e = any_read S code (code_of S l) l e

  pub right_blocks : (n : ℕ) → (has_code S l ≡ true → n ≡ S.blocks (coverage S l)) → blocks_with S n l ≡ blocks_of S l
  unfolding blocks_of blocks_with compares_code
  right_blocks n e = by (accepts (head_of S l)) (has_code S l) e
    where
      by : (h b : Bool) → (b ≡ true → n ≡ S.blocks (coverage S l)) → cond (h && b) n 0 ≡ cond (h && b) (S.blocks (coverage S l)) 0
      by true true f = f refl
      by true false f = refl
      by false b f = refl

  -- a code that was computed, and what is told of the rest with it
  pub told_computed : (ty n b : ℕ) (a : Res Shown) → head_of S l ≡ accept ty → Computed S l code n → a ≡ shown (rest_of S code l ty) → b ≡ n
      → (a ≡ shown (read_of S l)) × (b ≡ blocks_of S l)
  unfolding blocks_of
  told_computed ty n b a h c e f =
      let t = told_behind S l code (S.blocks (coverage S l)) ty b a h e (f ∙ c.count) in
      (t.0 ∙ ap shown (right_read c.right), t.1)

-- a packet that the head refuses
pub told_head : (S : Suite) (l : List ℕ) (k v : ℕ) (x : Res ℕ) → x ≡ head_of S l → x ≡ refuse k v → (refuse k v ≡ shown (read_of S l)) × (0 ≡ blocks_of S l)
unfolding read_of blocks_of
told_head S l k v x h e = told_refused S l (code_of S l) (S.blocks (coverage S l)) k v x h e
