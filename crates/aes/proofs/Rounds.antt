-- One turn of the code's loops over the rounds, and what stands after them, over the values of the calls.
use Prim.Native.Nat.{ℕ, zero, suc, ◌+◌, ◌-◌, ◌<◌}
use native.Mathlib.Omega.{arith}
use mathlib.Core.Path.{◌≡◌, sym, ◌∙◌, ap}
use mathlib.Core.List.{List}
use Rattle.sbox.specs.Substitution.{sub_bytes, unsub_bytes}
use Rattle.aes.specs.State.{shift_rows, unshift_rows, mix_columns, unmix_columns, add_round_key}
use Rattle.aes.specs.Cipher.{rounds, cipher, unrounds, inv_cipher}

module _ (w : List ℕ) where
  pub round_turn : (n : ℕ) (s t a b c d : List ℕ) → 0 < n → t ≡ rounds w (n - 1) s → a ≡ sub_bytes t → b ≡ shift_rows a
      → c ≡ mix_columns b → d ≡ add_round_key w n c → d ≡ rounds w (n + 1 - 1) s
  unfolding rounds
  round_turn n s t a b c d h ht ha hb hc hd =
      let e : n ≡ suc (n - 1) = omega arith in
      let f : suc (n - 1) ≡ n + 1 - 1 = omega arith in
      hd
      ∙ ap (add_round_key w n) (hc ∙ ap mix_columns (hb ∙ ap shift_rows (ha ∙ ap sub_bytes ht)))
      ∙ ap (λ (k : ℕ). add_round_key w k (mix_columns (shift_rows (sub_bytes (rounds w (n - 1) s))))) e
      ∙ ap (λ (k : ℕ). rounds w k s) f

  pub cipher_end : (n : ℕ) (s u t a b r : List ℕ) → n ≡ 10 → u ≡ add_round_key w 0 s → t ≡ rounds w (n - 1) u → a ≡ sub_bytes t
      → b ≡ shift_rows a → r ≡ add_round_key w 10 b → r ≡ cipher w s
  unfolding cipher
  cipher_end n s u t a b r hn hu ht ha hb hr =
      hr
      ∙ ap (add_round_key w 10)
      (hb ∙ ap shift_rows (ha ∙ ap sub_bytes (ht ∙ ap (λ (m : ℕ). rounds w (m - 1) u) hn ∙ ap (rounds w 9) hu)))

  unrounds_back : (n : ℕ) (t : List ℕ) → 0 < n
      → unrounds w (n - 1) (unmix_columns (add_round_key w n (unsub_bytes (unshift_rows t)))) ≡ unrounds w n t
  unfolding unrounds
  unrounds_back zero t h = absurd (omega arith)
  unrounds_back (suc n) t h =
      let e : suc n - 1 ≡ n = omega arith in
      ap (λ (m : ℕ). unrounds w m (unmix_columns (add_round_key w (suc n) (unsub_bytes (unshift_rows t))))) e

  pub unround_turn : (n : ℕ) (s t a b c d : List ℕ) → 0 < n → unrounds w n t ≡ s → a ≡ unshift_rows t → b ≡ unsub_bytes a
      → c ≡ add_round_key w n b → d ≡ unmix_columns c → unrounds w (n - 1) d ≡ s
  unround_turn n s t a b c d h hs ha hb hc hd =
      ap (unrounds w (n - 1)) (hd ∙ ap unmix_columns (hc ∙ ap (add_round_key w n) (hb ∙ ap unsub_bytes ha)))
      ∙ unrounds_back n t h ∙ hs

  pub inv_cipher_end : (n : ℕ) (s u t a b r : List ℕ) → n - 1 ≡ 0 → u ≡ add_round_key w 10 s → unrounds w (n - 1) t ≡ unrounds w 9 u
      → a ≡ unshift_rows t → b ≡ unsub_bytes a → r ≡ add_round_key w 0 b → r ≡ inv_cipher w s
  unfolding inv_cipher unrounds
  inv_cipher_end n s u t a b r hn hu ht ha hb hr =
      hr
      ∙ ap (add_round_key w 0)
      (hb ∙ ap unsub_bytes (ha ∙ ap unshift_rows (sym (ap (λ (m : ℕ). unrounds w m t) hn) ∙ ht ∙ ap (unrounds w 9) hu)))
