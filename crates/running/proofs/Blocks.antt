-- Runs of blocks, for any compression.
use Prim.Native.Nat.{ℕ, zero, suc, ◌+◌, ◌-◌, ◌*◌, ◌/◌, ◌%◌, ◌≤◌}
use native.Mathlib.Omega.{arith}
use mathlib.Core.Path.{◌≡◌, refl, sym, ◌∙◌, ap, ap₂}
use mathlib.Core.List.{List, ◌++◌}
use lib.ListN.{length, take, drop, length-append, length-drop}
use lib.Seq.{drop-drop, drop_at, take_at, take-append-le, drop-append-le}
use Rattle.running.specs.Hash.{runs}

module _ {C : Type 0} (compress : C → List ℕ → C) where
  runs-add : (j k : ℕ) (h : C) (m : List ℕ) → runs compress (j + k) h m ≡ runs compress k (runs compress j h m) (drop (j * 64) m)
  unfolding runs
  runs-add zero k h m = let e : 0 + k ≡ k = omega arith in rw e refl
  runs-add (suc j) k h m =
      let e : 64 + j * 64 ≡ suc j * 64 = omega arith in
      let f : suc j + k ≡ suc (j + k) = omega arith in
      rw f (runs-add j k (compress h (take 64 m)) (drop 64 m)
      ∙ ap (runs compress k (runs compress j (compress h (take 64 m)) (drop 64 m))) (drop-drop (j * 64) 64 m ∙ ap (λ (i : ℕ). drop i m) e))

  -- what stands behind the blocks that are hashed does not count
  runs_front : (j : ℕ) (h : C) (m s : List ℕ) → j * 64 ≤ length m → runs compress j h (m ++ s) ≡ runs compress j h m
  unfolding runs
  runs_front zero h m s l = refl
  runs_front (suc j) h m s l =
      let l₆₄ : 64 ≤ length m = omega arith in
      let lj : j * 64 ≤ length (drop 64 m) = simp length-drop (omega arith) in
      ap₂ (λ (x y : List ℕ). runs compress j (compress h x) y) (take-append-le 64 m s l₆₄) (drop-append-le 64 m s l₆₄)
      ∙ runs_front j (compress h (take 64 m)) (drop 64 m) s lj

  -- one block more, where it lies
  pub runs_next : (at : ℕ) (h v u : C) (s : List ℕ) → at % 64 ≡ 0 → v ≡ runs compress (at / 64) h s
      → u ≡ compress v (take (at + 64 - at) (drop at s)) → u ≡ runs compress ((at + 64) / 64) h s
  unfolding runs
  runs_next at h v u s z e p =
      let e₁ : at + 64 - at ≡ 64 = omega arith in
      let e₂ : at / 64 * 64 ≡ at = omega arith in
      let e₃ : (at + 64) / 64 ≡ at / 64 + 1 = omega arith in
      p ∙ ap₂ (λ (n : ℕ) (x : C). compress x (take n (drop at s))) e₁ e
      ∙ ap (λ (n : ℕ). compress (runs compress (at / 64) h s) (take 64 (drop n s))) (sym e₂)
      ∙ sym (runs-add (at / 64) 1 h s)
      ∙ ap (λ (n : ℕ). runs compress n h s) (sym e₃)

  -- one block more, the front of what is left
  pub runs_chunk : (v u : C) (r x t : List ℕ) → r ≡ x ++ t → length x ≡ 64 → u ≡ compress v x
      → runs compress (length r / 64) v r ≡ runs compress (length t / 64) u t
  unfolding runs
  runs_chunk v u r x t e n p =
      let k : length r / 64 ≡ suc (length t / 64) = omega (arith, ap length e ∙ length-append x t) in
      ap (λ (j : ℕ). runs compress j v r) k
      ∙ ap₂ (λ (y z : List ℕ). runs compress (length t / 64) (compress v y) z) (ap (take 64) e ∙ take_at x t 64 n)
      (ap (drop 64) e ∙ drop_at x t 64 n)
      ∙ ap (λ (c : C). runs compress (length t / 64) c t) (sym p)

  -- two runs of blocks, the first q blocks of l and then the rest of l with b behind it
  pub runs_on : (h : C) (l b : List ℕ) (q j : ℕ) → q * 64 ≤ length l
      → runs compress j (runs compress q h l) (drop (q * 64) l ++ b) ≡ runs compress (q + j) h (l ++ b)
  runs_on h l b q j m =
      ap₂ (runs compress j) (sym (runs_front q h l b m)) (sym (drop-append-le (q * 64) l b m)) ∙ sym (runs-add q j h (l ++ b))

  -- a block o, then the first block of x
  pub runs_two : (h : C) (o x : List ℕ) → length o ≡ 64 → runs compress 1 (runs compress 1 h o) x ≡ runs compress 2 h (o ++ x)
  runs_two h o x e =
      ap₂ (runs compress 1) (sym (runs_front 1 h o x (omega arith))) (sym (drop_at o x 64 e)) ∙ sym (runs-add 1 1 h (o ++ x))
