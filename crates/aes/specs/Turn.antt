-- What one turn of the key expansion (FIPS 197, 5.2) computes in the code: the next round key of a round key and the round's constant. No
-- public promise cites it.
use Rattle.std.specs.Prelude.{ℕ, List, [], ◌∷◌, ◌++◌}
use Rattle.aes.specs.Key.{word, xor_word, sub_word, rot_word}

unfoldable pub first : List ℕ → ℕ → List ℕ
unfolding word xor_word sub_word rot_word
first k rc = xor_word (word k 0) (xor_word (sub_word (rot_word (word k 3))) (rc ∷ 0 ∷ 0 ∷ 0 ∷ []))

-- each later word is the one four places back and the one before
unfoldable pub next_key : List ℕ → ℕ → List ℕ
unfolding first
next_key k rc =
    let a = first k rc in
    let b = xor_word (word k 1) a in
    let c = xor_word (word k 2) b in
    let d = xor_word (word k 3) c in
    a ++ b ++ c ++ d
