-- The cipher and the inverse cipher undo one another, on every block and over any round keys.
use Prim.Native.Nat.{ℕ, zero, suc, ◌+◌, ◌*◌}
use mathlib.Core.Path.{◌≡◌, refl, ◌∙◌, ap}
use mathlib.Core.List.{List, [], ◌∷◌}
use lib.Bits.{bit_xor}
use lib.ListN.{length, get_or}
use Rattle.octets.specs.Bytes.{Bytes}
use Rattle.sbox.specs.Substitution.{sub_bytes, unsub_bytes}
use Rattle.octets.proofs.Tab.{tab_self}
use Rattle.sbox.proofs.Inverse as sbox
use Rattle.aes.specs.State.{shift_rows, unshift_rows, mix_row, unmix_row, mix_columns, unmix_columns, add_round_key}
use Rattle.aes.specs.Cipher.{rounds, cipher, unrounds, inv_cipher}
use Rattle.octets.proofs.Xor.{xor_twice}
use Rattle.aes.proofs.Mix.{unmix_mix, mix_unmix}
use Rattle.aes.proofs.Block.{Block, sub_block, unsub_block, shift_block, unshift_block, mix_block, unmix_block, add_block}

-- each transformation undoes its inverse, on a block
module _ (s : List ℕ) (h : Block s) where
  unshift_shift : unshift_rows (shift_rows s) ≡ s
  unfolding shift_rows unshift_rows
  unshift_shift = tab_self s 16 h.size

  shift_unshift : shift_rows (unshift_rows s) ≡ s
  unfolding shift_rows unshift_rows
  shift_unshift = tab_self s 16 h.size

  unsub_sub : unsub_bytes (sub_bytes s) ≡ s
  unsub_sub = sbox.unsub_sub_bytes s h.size h.small

  sub_unsub : sub_bytes (unsub_bytes s) ≡ s
  sub_unsub = sbox.sub-unsub_bytes s h.size h.small

  unmix_mix_columns : unmix_columns (mix_columns s) ≡ s
  unfolding mix_columns unmix_columns
  unmix_mix_columns =
      (λ i. u 0 1 2 3 i ∷ u 1 2 3 0 i ∷ u 2 3 0 1 i ∷ u 3 0 1 2 i
      ∷ u 4 5 6 7 i ∷ u 5 6 7 4 i ∷ u 6 7 4 5 i ∷ u 7 4 5 6 i
      ∷ u 8 9 10 11 i ∷ u 9 10 11 8 i ∷ u 10 11 8 9 i ∷ u 11 8 9 10 i
      ∷ u 12 13 14 15 i ∷ u 13 14 15 12 i ∷ u 14 15 12 13 i ∷ u 15 12 13 14 i ∷ [])
      ∙ tab_self s 16 h.size
    where
      u : (i j k l : ℕ)
          → unmix_row (mix_row (get_or s i 0) (get_or s j 0) (get_or s k 0) (get_or s l 0)) (mix_row (get_or s j 0) (get_or s k 0) (get_or s l 0) (get_or s i 0))
          (mix_row (get_or s k 0) (get_or s l 0) (get_or s i 0) (get_or s j 0)) (mix_row (get_or s l 0) (get_or s i 0) (get_or s j 0) (get_or s k 0)) ≡ get_or s i 0
      u i j k l = unmix_mix _ _ _ _ (h.small i) (h.small j) (h.small k) (h.small l)

  mix_unmix_columns : mix_columns (unmix_columns s) ≡ s
  unfolding mix_columns unmix_columns
  mix_unmix_columns =
      (λ i. u 0 1 2 3 i ∷ u 1 2 3 0 i ∷ u 2 3 0 1 i ∷ u 3 0 1 2 i
      ∷ u 4 5 6 7 i ∷ u 5 6 7 4 i ∷ u 6 7 4 5 i ∷ u 7 4 5 6 i
      ∷ u 8 9 10 11 i ∷ u 9 10 11 8 i ∷ u 10 11 8 9 i ∷ u 11 8 9 10 i
      ∷ u 12 13 14 15 i ∷ u 13 14 15 12 i ∷ u 14 15 12 13 i ∷ u 15 12 13 14 i ∷ [])
      ∙ tab_self s 16 h.size
    where
      u : (i j k l : ℕ)
          → mix_row (unmix_row (get_or s i 0) (get_or s j 0) (get_or s k 0) (get_or s l 0)) (unmix_row (get_or s j 0) (get_or s k 0) (get_or s l 0) (get_or s i 0))
          (unmix_row (get_or s k 0) (get_or s l 0) (get_or s i 0) (get_or s j 0)) (unmix_row (get_or s l 0) (get_or s i 0) (get_or s j 0) (get_or s k 0)) ≡ get_or s i 0
      u i j k l = mix_unmix _ _ _ _ (h.small i) (h.small j) (h.small k) (h.small l)

  add-add : (w : List ℕ) (n : ℕ) → add_round_key w n (add_round_key w n s) ≡ s
  unfolding add_round_key
  add-add w n =
      (λ i. u 0 i ∷ u 1 i ∷ u 2 i ∷ u 3 i ∷ u 4 i ∷ u 5 i ∷ u 6 i ∷ u 7 i
      ∷ u 8 i ∷ u 9 i ∷ u 10 i ∷ u 11 i ∷ u 12 i ∷ u 13 i ∷ u 14 i ∷ u 15 i ∷ [])
      ∙ tab_self s 16 h.size
    where
      u : (k : ℕ) → bit_xor (bit_xor (get_or s k 0) (get_or w (16 * n + k) 0)) (get_or w (16 * n + k) 0) ≡ get_or s k 0
      u k = xor_twice (get_or s k 0) (get_or w (16 * n + k) 0)

module _ (w : List ℕ) (hw : Bytes w) where
  -- what the inverse cipher's rounds leave of the cipher's
  back : (n : ℕ) (s : List ℕ) → Block s → unrounds w n (shift_rows (sub_bytes (rounds w n s))) ≡ shift_rows (sub_bytes s)
  unfolding rounds unrounds
  back zero s h = refl
  back (suc n) s h =
      let x : List ℕ = shift_rows (sub_bytes (rounds w n s)) in
      let hx : Block x = shift_block _ (sub_block _).small in
      let hm : Block (mix_columns x) = mix_block x hx.small in
      let hr : Block (add_round_key w (suc n) (mix_columns x)) = add_block w hw (suc n) _ hm.small in
      ap (λ (y : List ℕ). unrounds w n (unmix_columns (add_round_key w (suc n) y)))
      (ap unsub_bytes (unshift_shift _ (sub_block _)) ∙ unsub_sub _ hr)
      ∙ ap (λ (y : List ℕ). unrounds w n (unmix_columns y)) (add-add (mix_columns x) hm w (suc n))
      ∙ ap (unrounds w n) (unmix_mix_columns x hx)
      ∙ back n s h

  pub inv_cipher-cipher : (b : List ℕ) → length b ≡ 16 → Bytes b → inv_cipher w (cipher w b) ≡ b
  unfolding cipher inv_cipher
  inv_cipher-cipher b size small =
      let hb : Block b = record { size = size; small = small } in
      let s : List ℕ = add_round_key w 0 b in
      let hs : Block s = add_block w hw 0 b small in
      ap (λ (y : List ℕ). add_round_key w 0 (unsub_bytes (unshift_rows (unrounds w 9 y)))) (add-add _ (shift_block _ (sub_block _).small) w 10)
      ∙ ap (λ (y : List ℕ). add_round_key w 0 (unsub_bytes (unshift_rows y))) (back 9 s hs)
      ∙ ap (λ (y : List ℕ). add_round_key w 0 (unsub_bytes y)) (unshift_shift _ (sub_block s))
      ∙ ap (add_round_key w 0) (unsub_sub s hs)
      ∙ add-add b hb w 0

  -- what the cipher's rounds leave of the inverse cipher's
  forth : (n : ℕ) (t : List ℕ) → Block t → shift_rows (sub_bytes (rounds w n (unsub_bytes (unshift_rows (unrounds w n t))))) ≡ t
  unfolding rounds unrounds
  forth zero t h = ap shift_rows (sub_unsub _ (unshift_block t h.small)) ∙ shift_unshift t h
  forth (suc n) t h =
      let y : List ℕ = unsub_bytes (unshift_rows t) in
      let hy : Block y = unsub_block _ in
      let ha : Block (add_round_key w (suc n) y) = add_block w hw (suc n) y hy.small in
      let hu : Block (unmix_columns (add_round_key w (suc n) y)) = unmix_block _ ha.small in
      ap (λ (x : List ℕ). shift_rows (sub_bytes (add_round_key w (suc n) (mix_columns x)))) (forth n _ hu)
      ∙ ap (λ (x : List ℕ). shift_rows (sub_bytes (add_round_key w (suc n) x))) (mix_unmix_columns _ ha)
      ∙ ap (λ (x : List ℕ). shift_rows (sub_bytes x)) (add-add y hy w (suc n))
      ∙ ap shift_rows (sub_unsub _ (unshift_block t h.small))
      ∙ shift_unshift t h

  pub cipher-inv_cipher : (b : List ℕ) → length b ≡ 16 → Bytes b → cipher w (inv_cipher w b) ≡ b
  unfolding cipher inv_cipher
  cipher-inv_cipher b size small =
      let hb : Block b = record { size = size; small = small } in
      let t : List ℕ = add_round_key w 10 b in
      let ht : Block t = add_block w hw 10 b small in
      ap (λ (y : List ℕ). add_round_key w 10 (shift_rows (sub_bytes (rounds w 9 y)))) (add-add _ (unsub_block _) w 0)
      ∙ ap (add_round_key w 10) (forth 9 t ht)
      ∙ add-add b hb w 10
