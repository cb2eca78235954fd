-- The cipher and the inverse cipher (FIPS 197 of 2001, sections 5.1 and 5.3; docs/RULES.md, 4.1) over the round keys w,
-- for AES-128: ten rounds, eleven round keys.
use Rattle.std.specs.Prelude.{ℕ, zero, suc, List}
use Rattle.sbox.specs.Substitution.{sub_bytes, unsub_bytes}
use Rattle.aes.specs.State.{shift_rows, unshift_rows, mix_columns, unmix_columns, add_round_key}

-- rounds 1 to n
unfoldable pub rounds : List ℕ → ℕ → List ℕ → List ℕ
rounds w zero s = s
rounds w (suc n) s = add_round_key w (suc n) (mix_columns (shift_rows (sub_bytes (rounds w n s))))

-- Cipher: the first key, nine rounds, and a last one with no MixColumns
unfoldable pub cipher : List ℕ → List ℕ → List ℕ
cipher w s = add_round_key w 10 (shift_rows (sub_bytes (rounds w 9 (add_round_key w 0 s))))

-- rounds n down to 1, inverted
unfoldable pub unrounds : List ℕ → ℕ → List ℕ → List ℕ
unrounds w zero s = s
unrounds w (suc n) s = unrounds w n (unmix_columns (add_round_key w (suc n) (unsub_bytes (unshift_rows s))))

-- InvCipher
unfoldable pub inv_cipher : List ℕ → List ℕ → List ℕ
inv_cipher w s = add_round_key w 0 (unsub_bytes (unshift_rows (unrounds w 9 (add_round_key w 10 s))))
