-- Laws of the key expansion: what the code computes for a round key, and how one round key follows the other.
use Prim.Native.Nat.{ℕ, suc, ◌+◌, ◌*◌, ◌/◌, ◌%◌, ◌-◌, ◌<◌, ◌≤◌}
use native.Mathlib.Numerals.{add-one}
use mathlib.Core.Bool.{Bool, cond}
use mathlib.Core.Path.{◌≡◌, refl, sym, ◌∙◌, ap, ap₂}
use mathlib.Core.List.{List, [], ◌∷◌, ◌++◌}
use native.Mathlib.Omega.{arith}
use borrow.Author.Tests.{eq-eqb, ne_eqb}
use lib.Bits.{bit_xor, xor_zero_r}
use lib.ListN.{length, get_or, take}
use lib.Seq.{take_all}
use Rattle.octets.specs.Place.{pasted}
use Rattle.octets.specs.Promise.{PutPromise}
use Rattle.octets.proofs.Place.{put_done, length-pasted, take_put}
use Rattle.sbox.specs.Field.{xtime}
use Rattle.sbox.specs.Substitution.{sub_byte, sub_bytes}
use Rattle.aes.specs.Key.{powers, rcon, rot_word, sub_word, xor_word, temp, word, words, schedule, key_expansion}
use Rattle.aes.specs.Turn.{next_key}

-- the sixteen bytes of the code, from the round key k, its substituted bytes t and the round's constant
abbrev pub turned : List ℕ → List ℕ → ℕ → List ℕ
turned k t rc =
    bit_xor (get_or k 0 0) (bit_xor (get_or t 13 0) rc)
    ∷ bit_xor (get_or k 1 0) (get_or t 14 0)
    ∷ bit_xor (get_or k 2 0) (get_or t 15 0)
    ∷ bit_xor (get_or k 3 0) (get_or t 12 0)
    ∷ bit_xor (get_or k 4 0) (bit_xor (get_or k 0 0) (bit_xor (get_or t 13 0) rc))
    ∷ bit_xor (get_or k 5 0) (bit_xor (get_or k 1 0) (get_or t 14 0))
    ∷ bit_xor (get_or k 6 0) (bit_xor (get_or k 2 0) (get_or t 15 0))
    ∷ bit_xor (get_or k 7 0) (bit_xor (get_or k 3 0) (get_or t 12 0))
    ∷ bit_xor (get_or k 8 0) (bit_xor (get_or k 4 0) (bit_xor (get_or k 0 0) (bit_xor (get_or t 13 0) rc)))
    ∷ bit_xor (get_or k 9 0) (bit_xor (get_or k 5 0) (bit_xor (get_or k 1 0) (get_or t 14 0)))
    ∷ bit_xor (get_or k 10 0) (bit_xor (get_or k 6 0) (bit_xor (get_or k 2 0) (get_or t 15 0)))
    ∷ bit_xor (get_or k 11 0) (bit_xor (get_or k 7 0) (bit_xor (get_or k 3 0) (get_or t 12 0)))
    ∷ bit_xor (get_or k 12 0) (bit_xor (get_or k 8 0) (bit_xor (get_or k 4 0) (bit_xor (get_or k 0 0) (bit_xor (get_or t 13 0) rc))))
    ∷ bit_xor (get_or k 13 0) (bit_xor (get_or k 9 0) (bit_xor (get_or k 5 0) (bit_xor (get_or k 1 0) (get_or t 14 0))))
    ∷ bit_xor (get_or k 14 0) (bit_xor (get_or k 10 0) (bit_xor (get_or k 6 0) (bit_xor (get_or k 2 0) (get_or t 15 0))))
    ∷ bit_xor (get_or k 15 0) (bit_xor (get_or k 11 0) (bit_xor (get_or k 7 0) (bit_xor (get_or k 3 0) (get_or t 12 0)))) ∷ []

pub turned_is : (k : List ℕ) (rc : ℕ) → turned k (sub_bytes k) rc ≡ next_key k rc
unfolding sub_bytes next_key
turned_is k rc = λ i.
    bit_xor (get_or k 0 0) (bit_xor (sub_byte (get_or k 13 0)) rc)
    ∷ bit_xor (get_or k 1 0) (z 14 i)
    ∷ bit_xor (get_or k 2 0) (z 15 i)
    ∷ bit_xor (get_or k 3 0) (z 12 i)
    ∷ bit_xor (get_or k 4 0) (bit_xor (get_or k 0 0) (bit_xor (sub_byte (get_or k 13 0)) rc))
    ∷ bit_xor (get_or k 5 0) (bit_xor (get_or k 1 0) (z 14 i))
    ∷ bit_xor (get_or k 6 0) (bit_xor (get_or k 2 0) (z 15 i))
    ∷ bit_xor (get_or k 7 0) (bit_xor (get_or k 3 0) (z 12 i))
    ∷ bit_xor (get_or k 8 0) (bit_xor (get_or k 4 0) (bit_xor (get_or k 0 0) (bit_xor (sub_byte (get_or k 13 0)) rc)))
    ∷ bit_xor (get_or k 9 0) (bit_xor (get_or k 5 0) (bit_xor (get_or k 1 0) (z 14 i)))
    ∷ bit_xor (get_or k 10 0) (bit_xor (get_or k 6 0) (bit_xor (get_or k 2 0) (z 15 i)))
    ∷ bit_xor (get_or k 11 0) (bit_xor (get_or k 7 0) (bit_xor (get_or k 3 0) (z 12 i)))
    ∷ bit_xor (get_or k 12 0) (bit_xor (get_or k 8 0) (bit_xor (get_or k 4 0) (bit_xor (get_or k 0 0) (bit_xor (sub_byte (get_or k 13 0)) rc))))
    ∷ bit_xor (get_or k 13 0) (bit_xor (get_or k 9 0) (bit_xor (get_or k 5 0) (bit_xor (get_or k 1 0) (z 14 i))))
    ∷ bit_xor (get_or k 14 0) (bit_xor (get_or k 10 0) (bit_xor (get_or k 6 0) (bit_xor (get_or k 2 0) (z 15 i))))
    ∷ bit_xor (get_or k 15 0) (bit_xor (get_or k 11 0) (bit_xor (get_or k 7 0) (bit_xor (get_or k 3 0) (z 12 i)))) ∷ []
  where
    z : (j : ℕ) → sub_byte (get_or k j 0) ≡ bit_xor (sub_byte (get_or k j 0)) 0
    z j = sym (xor_zero_r (sub_byte (get_or k j 0)))

-- every fourth word is turned, substituted and given the round's constant
temp_first : (n : ℕ) (a : List ℕ) → temp (4 * n + 4) a ≡ xor_word (sub_word (rot_word a)) (powers n ∷ 0 ∷ 0 ∷ 0 ∷ [])
unfolding temp rcon
temp_first n a =
    let e : (4 * n + 4) % 4 ≡ 0 = omega arith in
    let m : (4 * n + 4) / 4 - 1 ≡ n = omega arith in
    ap (λ (b : Bool). cond b (xor_word (sub_word (rot_word a)) (rcon ((4 * n + 4) / 4))) a) (eq-eqb ((4 * n + 4) % 4) 0 e)
    ∙ ap (λ (j : ℕ). xor_word (sub_word (rot_word a)) (powers j ∷ 0 ∷ 0 ∷ 0 ∷ [])) m

-- the others are as they are
temp_other : (i : ℕ) (a : List ℕ) → (i % 4 ≡ 0 → ⊥) → temp i a ≡ a
unfolding temp
temp_other i a h = ap (λ (b : Bool). cond b (xor_word (sub_word (rot_word a)) (rcon (i / 4))) a) (ne_eqb (i % 4) 0 h)

-- one word on
abbrev step : List ℕ → List ℕ → List ℕ
step w t = word w 1 ++ word w 2 ++ word w 3 ++ xor_word (word w 0) t

words-suc : (k : List ℕ) (i : ℕ) → words k (suc i) ≡ step (words k i) (temp (i + 4) (word (words k i) 3))
unfolding words
words-suc k i = refl

-- a later word
abbrev on : List ℕ → List ℕ
on w = step w (word w 3)

four : (w : List ℕ) (rc : ℕ) → on (on (on (step w (xor_word (sub_word (rot_word (word w 3))) (rc ∷ 0 ∷ 0 ∷ 0 ∷ []))))) ≡ next_key w rc
unfolding next_key
four w rc = refl

-- the next round key
pub words_turn : (k : List ℕ) (n : ℕ) → words k (4 * suc n) ≡ next_key (words k (4 * n)) (powers n)
words_turn k n =
    let e : 4 * suc n ≡ suc (suc (suc (suc (4 * n)))) = omega arith in
    ap (words k) e
    ∙ words-suc k (suc (suc (suc (4 * n)))) ∙ ap (step (words k (suc (suc (suc (4 * n)))))) (temp_other _ _ (λ z. omega arith))
    ∙ ap on
    (words-suc k (suc (suc (4 * n))) ∙ ap (step (words k (suc (suc (4 * n))))) (temp_other _ _ (λ z. omega arith))
    ∙ ap on
    (words-suc k (suc (4 * n)) ∙ ap (step (words k (suc (4 * n)))) (temp_other _ _ (λ z. omega arith))
    ∙ ap on
    (words-suc k (4 * n) ∙ ap (step (words k (4 * n))) (temp_first n (word (words k (4 * n)) 3)))))
    ∙ four (words k (4 * n)) (powers n)

pub length-next_key : (k : List ℕ) (rc : ℕ) → length (next_key k rc) ≡ 16
unfolding next_key
length-next_key k rc = refl

-- the first round key, put at the start
pub key_first : (k d x : List ℕ) (r : Bool) → length k ≡ 16 → length d ≡ 176 → PutPromise d 0 k r x
    → (take (16 * (0 + 1)) x ≡ schedule k (0 + 1)) × (length x ≡ 176)
unfolding schedule words
key_first k d x r hk hd p =
    let h : 0 + length k ≤ length d = omega arith in
    let e : x ≡ pasted d 0 k = put_done d 0 k r x p h in
    (ap (take 16) e ∙ take_put d 0 16 k hk (omega arith), ap length e ∙ length-pasted d 0 k h ∙ hd)

-- the next round key, put behind the others
pub key_turn : (k₀ : List ℕ) (n : ℕ) (w k : List ℕ) (rc : ℕ) (k' w' : List ℕ) (r : Bool) → n < 10
    → (take (16 * (n + 1)) w ≡ schedule k₀ (n + 1)) × (length w ≡ 176) × (k ≡ words k₀ (4 * n)) × (rc ≡ powers n)
    → k' ≡ next_key k rc → PutPromise w (16 * (n + 1)) k' r w'
    → (take (16 * (n + 1 + 1)) w' ≡ schedule k₀ (n + 1 + 1)) × (length w' ≡ 176) × (k' ≡ words k₀ (4 * (n + 1)))
unfolding schedule
key_turn k₀ n w k rc k' w' r hn (ht, hl, hk, hr) hk' p =
    let l : length k' ≡ 16 = ap length hk' ∙ length-next_key k rc in
    let h : 16 * (n + 1) + length k' ≤ length w = omega arith in
    let e : w' ≡ pasted w (16 * (n + 1)) k' = put_done w (16 * (n + 1)) k' r w' p h in
    let m : 16 * (n + 1 + 1) ≡ 16 * (n + 1) + 16 = omega arith in
    let s : k' ≡ words k₀ (4 * (n + 1)) = hk' ∙ ap₂ next_key hk hr ∙ sym (words_turn k₀ n) ∙ ap (λ (j : ℕ). words k₀ (4 * j)) (sym (add-one n)) in
    let g : 16 * (n + 1) ≤ length w = omega arith in (
      ap₂ take m e ∙ take_put w (16 * (n + 1)) 16 k' l g ∙ ap₂ ◌++◌ ht s ∙ ap (schedule k₀) (sym (add-one (n + 1))),
      ap length e ∙ length-pasted w (16 * (n + 1)) k' h ∙ hl,
      s,
    )

pub powers_turn : (n rc r : ℕ) → rc ≡ powers n → r ≡ xtime rc → r ≡ powers (n + 1)
unfolding powers
powers_turn n rc r e f = f ∙ ap xtime e ∙ ap powers (sym (add-one n))

-- all of them
pub key_end : (k₀ w : List ℕ) (n : ℕ) → n ≡ 10 → take (16 * (n + 1)) w ≡ schedule k₀ (n + 1) → length w ≡ 176 → w ≡ key_expansion k₀
unfolding key_expansion
key_end k₀ w n e h l =
    let g : length w ≤ 16 * (n + 1) = omega arith in
    sym (take_all (16 * (n + 1)) w g) ∙ h ∙ ap (λ (m : ℕ). schedule k₀ (m + 1)) e
