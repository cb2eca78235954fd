-- The expanded key is bytes: 176 of them.
use Prim.Native.Nat.{ℕ, zero, suc, ◌+◌, ◌*◌, ◌/◌, ◌%◌, ◌-◌, ◌<◌}
use native.Mathlib.Omega.{arith}
use mathlib.Core.Bool.{Bool, true, false, cond}
use mathlib.Core.Path.{◌≡◌, refl, ◌∙◌, ap₂}
use mathlib.Core.List.{List, [], ◌∷◌, ◌++◌}
use lib.Dec.{eqb, lit<}
use lib.ListN.{length, get_or, length-append}
use Rattle.octets.specs.Bytes.{Bytes}
use Rattle.octets.proofs.Bytes.{bytes_nil, bytes_append}
use Rattle.octets.proofs.Xor.{xor_byte}
use Rattle.sbox.proofs.Sizes.{xtime_byte, sub_byte_byte}
use Rattle.aes.specs.Key.{powers, rcon, rot_word, sub_word, xor_word, temp, word, words, schedule, key_expansion}

powers_byte : (n : ℕ) → powers n < 256
unfolding powers
powers_byte zero = lit< tt
powers_byte (suc n) = xtime_byte (powers n)

four : (a b c d : ℕ) → a < 256 → b < 256 → c < 256 → d < 256 → Bytes (a ∷ b ∷ c ∷ d ∷ [])
four a b c d ha hb hc hd zero = ha
four a b c d ha hb hc hd (suc zero) = hb
four a b c d ha hb hc hd (suc (suc zero)) = hc
four a b c d ha hb hc hd (suc (suc (suc zero))) = hd
four a b c d ha hb hc hd (suc (suc (suc (suc i)))) = lit< tt

xor_bytes : (a b : List ℕ) → Bytes a → Bytes b → Bytes (xor_word a b)
unfolding xor_word
xor_bytes a b h g =
    four _ _ _ _ (xor_byte _ _ (h 0) (g 0)) (xor_byte _ _ (h 1) (g 1)) (xor_byte _ _ (h 2) (g 2)) (xor_byte _ _ (h 3) (g 3))

sub_word_bytes : (a : List ℕ) → Bytes (sub_word a)
unfolding sub_word
sub_word_bytes a =
    four _ _ _ _ (sub_byte_byte (get_or a 0 0)) (sub_byte_byte (get_or a 1 0)) (sub_byte_byte (get_or a 2 0)) (sub_byte_byte (get_or a 3 0))

rcon_bytes : (j : ℕ) → Bytes (rcon j)
unfolding rcon
rcon_bytes j = four (powers (j - 1)) 0 0 0 (powers_byte (j - 1)) (lit< tt) (lit< tt) (lit< tt)

cond_bytes : (b : Bool) (x y : List ℕ) → Bytes x → Bytes y → Bytes (cond b x y)
cond_bytes true x y h g = h
cond_bytes false x y h g = g

temp_bytes : (i : ℕ) (a : List ℕ) → Bytes a → Bytes (temp i a)
unfolding temp
temp_bytes i a h =
    cond_bytes (eqb (i % 4) 0) (xor_word (sub_word (rot_word a)) (rcon (i / 4))) a
    (xor_bytes (sub_word (rot_word a)) (rcon (i / 4)) (sub_word_bytes (rot_word a)) (rcon_bytes (i / 4)))
    h

word_bytes : (s : List ℕ) (j : ℕ) → Bytes s → Bytes (word s j)
unfolding word
word_bytes s j h = four _ _ _ _ (h (4 * j)) (h (4 * j + 1)) (h (4 * j + 2)) (h (4 * j + 3))

words_bytes : (k : List ℕ) → Bytes k → (i : ℕ) → Bytes (words k i)
unfolding words
words_bytes k h zero = h
words_bytes k h (suc i) =
    let w : List ℕ = words k i in
    let g : Bytes w = words_bytes k h i in
    let x : List ℕ = xor_word (word w 0) (temp (i + 4) (word w 3)) in
    bytes_append (word w 1) (word w 2 ++ word w 3 ++ x) (word_bytes w 1 g)
    (bytes_append (word w 2) (word w 3 ++ x) (word_bytes w 2 g)
    (bytes_append (word w 3) x (word_bytes w 3 g)
    (xor_bytes (word w 0) (temp (i + 4) (word w 3)) (word_bytes w 0 g) (temp_bytes (i + 4) (word w 3) (word_bytes w 3 g)))))

schedule_bytes : (k : List ℕ) → Bytes k → (n : ℕ) → Bytes (schedule k n)
unfolding schedule
schedule_bytes k h zero = bytes_nil
schedule_bytes k h (suc n) = bytes_append (schedule k n) (words k (4 * n)) (schedule_bytes k h n) (words_bytes k h (4 * n))

pub expansion_bytes : (k : List ℕ) → Bytes k → Bytes (key_expansion k)
unfolding key_expansion
expansion_bytes k h = schedule_bytes k h 11

words-length : (k : List ℕ) → length k ≡ 16 → (i : ℕ) → length (words k i) ≡ 16
unfolding words word
words-length k h zero = h
words-length k h (suc i) = refl

schedule-length : (k : List ℕ) → length k ≡ 16 → (n : ℕ) → length (schedule k n) ≡ 16 * n
unfolding schedule
schedule-length k h zero = refl
schedule-length k h (suc n) =
    let e : 16 * n + 16 ≡ 16 * suc n = omega arith in
    length-append (schedule k n) (words k (4 * n)) ∙ ap₂ ◌+◌ (schedule-length k h n) (words-length k h (4 * n)) ∙ e

pub expansion_length : (k : List ℕ) → length k ≡ 16 → length (key_expansion k) ≡ 176
unfolding key_expansion
expansion_length k h = schedule-length k h 11
