-- What is written is read back, and what is read was written so: decimal, hex and eight hex digits. And the line of the
-- first packet of the rules, character by character.
use Prim.Native.Nat.{ℕ, zero, suc, ◌+◌, ◌*◌, ◌/◌, ◌%◌, ◌^◌, ◌<◌, ◌≤◌}
use native.Mathlib.Omega.{arith}
use mathlib.Core.Bool.{Bool, true, false, ◌&&◌, cond}
use mathlib.Core.List.{List, [], ◌∷◌, ◌++◌, append-nil}
use mathlib.Core.Logic.{◌⊎◌, ⊎_elim}
use mathlib.Core.Path.{◌≡◌, refl, sym, ◌∙◌, ap, ap₂}
use Rattle.std.specs.Prelude.{Some, None, Ok}
use lib.Dec.{leb, eqb}
use lib.ListN.{length, get_or, get_or-append}
use lib.Seq.{append_snoc}
use borrow.Author.Tests.{lt-ltb, le-leb, eqb-true}
use Rattle.octets.specs.Bytes.{Bytes}
use Rattle.octets.proofs.Bytes.{bytes_tail}
use Rattle.octets.proofs.Order.{lt_or_le}
use Rattle.octets.proofs.Equal.{and_inv}
use Rattle.text.specs.Digits.{digit, worth, spelled, decimal, hex, hex8, digits, value, pairs}
use Rattle.text.specs.Promise.{number_in, word_in, hexed}
use Rattle.text.specs.Line.{line_of}
use Rattle.text.proofs.Digits.{worth-digit, digit-worth}
use Rattle.text.proofs.Tens.{decimal_small, decimal-more, decimal_some}
use Rattle.text.proofs.Writing.{length_hex}
use Rattle.text.proofs.Reading.{digits_both, hexed_yes, left, number_some}

value_snoc : (b v : ℕ) (s : List ℕ) (c : ℕ) → value b v (s ++ (c ∷ [])) ≡ value b v s * b + worth c
value_snoc b v [] c = refl
value_snoc b v (d ∷ s) c = value_snoc b (v * b + worth d) s c

digits-snoc : (b : ℕ) (s : List ℕ) (c : ℕ) → digits b s ≡ true → worth c < b → digits b (s ++ (c ∷ [])) ≡ true
digits-snoc b [] c e h = rw (lt-ltb (worth c) b h)
digits-snoc b (d ∷ s) c e h =
    let t = digits_both b d s e in
    ap₂ ◌&&◌ (lt-ltb (worth d) b t.0) (digits-snoc b s c t.1 h)

spells_small : (n : ℕ) → n < 10 → (digits 10 (decimal n) ≡ true) × (value 10 0 (decimal n) ≡ n)
spells_small n h =
    let w : worth (digit n) ≡ n = worth-digit n (omega arith) in
    let g : worth (digit n) < 10 = omega arith in
    (ap (digits 10) (decimal_small n h) ∙ rw (lt-ltb (worth (digit n)) 10 g), ap (value 10 0) (decimal_small n h) ∙ omega arith)

spells : (f n : ℕ) → n ≤ f → (digits 10 (decimal n) ≡ true) × (value 10 0 (decimal n) ≡ n)
spells zero n h = spells_small n (omega arith)
spells (suc f) n h =
    ⊎_elim
    (λ (s : n < 10). spells_small n s)
    (λ (s : 10 ≤ n).
    let r = spells f (n / 10) (omega arith) in
    let w : worth (digit (n % 10)) ≡ n % 10 = worth-digit (n % 10) (omega arith) in
    let g : worth (digit (n % 10)) < 10 = omega arith in (
      ap (digits 10) (decimal-more n s) ∙ digits-snoc 10 (decimal (n / 10)) (digit (n % 10)) r.0 g,
      ap (value 10 0) (decimal-more n s) ∙ value_snoc 10 0 (decimal (n / 10)) (digit (n % 10)) ∙ omega (arith, r.1),
    ))
    (lt_or_le n 10)

-- a number in decimal is digits, and they say that number
pub decimal-digits : (n : ℕ) → digits 10 (decimal n) ≡ true
decimal-digits n = (spells n n (omega arith)).0

pub decimal_value : (n : ℕ) → value 10 0 (decimal n) ≡ n
decimal_value n = (spells n n (omega arith)).1

-- so it is read back
pub undecimal_decimal : (n most : ℕ) → n ≤ most → number_in 10 most (decimal n) ≡ Some n
unfolding left
undecimal_decimal n most h =
    let k : (length (decimal n) ≡ 0 → ⊥) = λ e. omega (arith, decimal_some n) in
    number_some 10 most (decimal n) k
    ∙ ap₂ (λ (t : Bool) (v : ℕ). cond (t && leb v most) (Some v) None) (decimal-digits n) (decimal_value n)
    ∙ ap (λ (t : Bool). cond t (Some n) None) (le-leb n most h)

-- digits after a number that is not 0 stand after its own
after : (v : ℕ) (s : List ℕ) → 0 < v → digits 10 s ≡ true → decimal (value 10 v s) ≡ decimal v ++ s
after v [] h e = sym (append-nil (decimal v))
after v (c ∷ s) h e =
    let t = digits_both 10 c s e in
    let w : ℕ = v * 10 + worth c in
    let q : w / 10 ≡ v = omega (arith, t.0) in
    let r : w % 10 ≡ worth c = omega (arith, t.0) in
    let d : digit (worth c) ≡ c = digit-worth c (omega (arith, t.0)) in
    after w s (omega arith) t.1
    ∙ ap (λ (l : List ℕ). l ++ s)
    (decimal-more w (omega arith) ∙ ap₂ (λ (x y : ℕ). decimal x ++ (digit y ∷ [])) q r ∙ ap (λ (y : ℕ). decimal v ++ (y ∷ [])) d)
    ∙ append_snoc (decimal v) c s

-- digits with no zero in front, or a single digit, are what their number is in decimal
pub decimal_undecimal : (c : ℕ) (s : List ℕ) → digits 10 (c ∷ s) ≡ true → (0 < worth c) ⊎ (s ≡ []) → decimal (value 10 0 (c ∷ s)) ≡ c ∷ s
decimal_undecimal c s e h =
    let t = digits_both 10 c s e in
    let z : 0 * 10 + worth c ≡ worth c = omega arith in
    let d : digit (worth c) ≡ c = digit-worth c (omega (arith, t.0)) in
    let one : decimal (worth c) ≡ c ∷ [] = decimal_small (worth c) t.0 ∙ ap (λ (y : ℕ). y ∷ []) d in
    ap (λ (v : ℕ). decimal (value 10 v s)) z
    ∙ ⊎_elim
    (λ (g : 0 < worth c). after (worth c) s g t.1 ∙ ap (λ (l : List ℕ). l ++ s) one)
    (λ (g : s ≡ []). ap (λ (l : List ℕ). decimal (value 10 (worth c) l)) g ∙ one ∙ ap (λ (l : List ℕ). c ∷ l) (sym g))
    h

front_small : (n : ℕ) → n < 10 → 0 < n → 0 < worth (get_or (decimal n) 0 0)
front_small n h k = omega (arith, ap (λ (l : List ℕ). worth (get_or l 0 0)) (decimal_small n h), worth-digit n (omega arith))

front : (f n : ℕ) → n ≤ f → 0 < n → 0 < worth (get_or (decimal n) 0 0)
front zero n h k = absurd (omega arith)
front (suc f) n h k =
    ⊎_elim
    (λ (s : n < 10). front_small n s k)
    (λ (s : 10 ≤ n).
    let r = front f (n / 10) (omega arith) (omega arith) in
    omega (
      arith,
      r,
      ap (λ (l : List ℕ). worth (get_or l 0 0)) (decimal-more n s),
      ap worth (get_or-append (decimal (n / 10)) (digit (n % 10) ∷ []) 0 0 (decimal_some (n / 10))),
    ))
    (lt_or_le n 10)

-- no zero stands in front of a number that is not 0
pub decimal_front : (n : ℕ) → 0 < n → 0 < worth (get_or (decimal n) 0 0)
decimal_front n h = front n n (omega arith) h

-- bytes in hex are read back
pub pairs-hex : (l : List ℕ) → Bytes l → pairs (hex l) ≡ l
pairs-hex [] h = refl
pairs-hex (b ∷ l) h =
    let s : b < 256 = h 0 in
    let p = worth-digit (b / 16) (omega arith) in
    let q = worth-digit (b % 16) (omega arith) in
    let e : 16 * worth (digit (b / 16)) + worth (digit (b % 16)) ≡ b = omega arith in
    ap₂ ◌∷◌ e (pairs-hex l (bytes_tail b l h))

digits-hex : (l : List ℕ) → Bytes l → digits 16 (hex l) ≡ true
digits-hex [] h = refl
digits-hex (b ∷ l) h =
    let s : b < 256 = h 0 in
    let p = worth-digit (b / 16) (omega arith) in
    let q = worth-digit (b % 16) (omega arith) in
    let u : worth (digit (b / 16)) < 16 = omega arith in
    let v : worth (digit (b % 16)) < 16 = omega arith in
    ap₂ (λ (x y : Bool). x && (y && digits 16 (hex l))) (lt-ltb (worth (digit (b / 16))) 16 u) (lt-ltb (worth (digit (b % 16))) 16 v)
    ∙ digits-hex l (bytes_tail b l h)

pub hexed-hex : (l : List ℕ) → Bytes l → hexed (hex l) ≡ true
hexed-hex l h = hexed_yes (hex l) (omega (arith, length_hex l)) (digits-hex l h)

hex_of : (s : List ℕ) → length s % 2 ≡ 0 → digits 16 s ≡ true → hex (pairs s) ≡ s
hex_of [] e f = refl
hex_of (h ∷ []) e f = absurd (omega arith)
hex_of (h ∷ l ∷ s) e f =
    let t = digits_both 16 h (l ∷ s) f in
    let u = digits_both 16 l s t.1 in
    let x : ℕ = 16 * worth h + worth l in
    let p : x / 16 ≡ worth h = omega (arith, u.0) in
    let q : x % 16 ≡ worth l = omega (arith, u.0) in
    ap₂ (λ (a b : ℕ). digit a ∷ digit b ∷ hex (pairs s)) p q
    ∙ ap₂ (λ (a b : ℕ). a ∷ b ∷ hex (pairs s)) (digit-worth h t.0) (digit-worth l u.0)
    ∙ ap (λ (r : List ℕ). h ∷ l ∷ r) (hex_of s (omega arith) u.1)

-- and what is read was bytes in hex
pub hex-pairs : (s : List ℕ) → hexed s ≡ true → hex (pairs s) ≡ s
unfolding hexed
hex-pairs s e = let t = and_inv (eqb (length s % 2) 0) (digits 16 s) e in hex_of s (eqb-true (length s % 2) 0 t.0) t.1

-- a number of w hex digits is digits that say it
spelled-digits : (w n : ℕ) → digits 16 (spelled 16 w n) ≡ true
spelled-digits zero n = refl
spelled-digits (suc w) n =
    let g : worth (digit (n % 16)) < 16 = omega (arith, worth-digit (n % 16) (omega arith)) in
    digits-snoc 16 (spelled 16 w (n / 16)) (digit (n % 16)) (spelled-digits w (n / 16)) g

spelled_value : (w n : ℕ) → n < 16 ^ w → value 16 0 (spelled 16 w n) ≡ n
spelled_value zero n h = omega arith
spelled_value (suc w) n h =
    let k : n / 16 < 16 ^ w = omega arith in
    value_snoc 16 0 (spelled 16 w (n / 16)) (digit (n % 16)) ∙ omega (arith, spelled_value w (n / 16) k, worth-digit (n % 16) (omega arith))

-- eight hex digits are read back
pub unhex8_hex8 : (n : ℕ) → n < 2 ^ 32 → word_in (hex8 n) ≡ Some n
unfolding word_in hex8
unhex8_hex8 n h =
    ap₂ (λ (t : Bool) (v : ℕ). cond t (Some v) None) (spelled-digits 8 n) (spelled_value 8 n h)

spelled-onto : (w v : ℕ) (s : List ℕ) → digits 16 s ≡ true → spelled 16 (length s + w) (value 16 v s) ≡ spelled 16 w v ++ s
spelled-onto w v [] e = let g : 0 + w ≡ w = omega arith in ap (λ (k : ℕ). spelled 16 k v) g ∙ sym (append-nil (spelled 16 w v))
spelled-onto w v (c ∷ s) e =
    let t = digits_both 16 c s e in
    let x : ℕ = v * 16 + worth c in
    let q : x / 16 ≡ v = omega (arith, t.0) in
    let r : x % 16 ≡ worth c = omega (arith, t.0) in
    let g : suc (length s) + w ≡ length s + suc w = omega arith in
    ap (λ (k : ℕ). spelled 16 k (value 16 x s)) g
    ∙ spelled-onto (suc w) x s t.1
    ∙ ap₂ (λ (a b : ℕ). (spelled 16 w a ++ (digit b ∷ [])) ++ s) q r
    ∙ ap (λ (y : ℕ). (spelled 16 w v ++ (y ∷ [])) ++ s) (digit-worth c t.0)
    ∙ append_snoc (spelled 16 w v) c s

-- and what is read was eight hex digits
pub hex8_unhex8 : (s : List ℕ) (n : ℕ) → word_in s ≡ Some n → hex8 n ≡ s
unfolding word_in hex8
hex8_unhex8 s n e = by_test (eqb (length s) 8) (digits 16 s) refl refl e
  where
    by_test : (t u : Bool) → eqb (length s) 8 ≡ t → digits 16 s ≡ u → cond (t && u) (Some (value 16 0 s)) None ≡ Some n
        → spelled 16 8 n ≡ s
    by_test true true f g k =
        let l : length s + 0 ≡ 8 = omega (arith, eqb-true (length s) 8 f) in
        let v : value 16 0 s ≡ n = cc in
        ap₂ (λ (a b : ℕ). spelled 16 a b) (sym l) (sym v) ∙ spelled-onto 0 0 s g
    by_test true false f g k = let z : ◌≡◌ {A = ℕ} 0 1 = cc in absurd (omega arith)
    by_test false u f g k = let z : ◌≡◌ {A = ℕ} 0 1 = cc in absurd (omega arith)

-- `type 0 id 0a0b0c0d seq 00000001 payload 2` and the newline: what rule 8.1 shows for the packet of the first marked case
pub first_line : line_of (Ok (record { kind = 0; id = 0x0a0b0c0d; seq = 1; len = 2 }))
    ≡ 116 ∷ 121 ∷ 112 ∷ 101 ∷ 32 ∷ 48 ∷ 32 ∷ 105 ∷ 100 ∷ 32 ∷ 48 ∷ 97 ∷ 48 ∷ 98 ∷ 48 ∷ 99 ∷ 48 ∷ 100 ∷ 32 ∷ 115 ∷ 101 ∷ 113 ∷ 32
    ∷ 48 ∷ 48 ∷ 48 ∷ 48 ∷ 48 ∷ 48 ∷ 48 ∷ 49 ∷ 32 ∷ 112 ∷ 97 ∷ 121 ∷ 108 ∷ 111 ∷ 97 ∷ 100 ∷ 32 ∷ 50 ∷ 10 ∷ []
unfolding digit decimal hex8
first_line = refl
