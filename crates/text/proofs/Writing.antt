-- Laws of writing at a cursor: how long a piece is, and what the buffer holds after the turns of each loop.
use Prim.Native.Nat.{ℕ, suc, ◌+◌, ◌-◌, ◌*◌, ◌/◌, ◌%◌, ◌<◌, ◌≤◌}
use native.Mathlib.Omega.{arith}
use native.Mathlib.Numerals.{add-one}
use mathlib.Core.List.{List, [], ◌∷◌, ◌++◌}
use mathlib.Core.Path.{◌≡◌, refl, sym, ◌∙◌, ap, ap₂}
use lib.ListN.{length, get_or, take, drop, set, length-append}
use lib.Seq.{length-take-le, take-suc, append_snoc}
use Rattle.octets.specs.Number.{be}
use Rattle.octets.specs.Place.{pasted}
use Rattle.octets.proofs.Place.{pasted-more, drop-set}
use Rattle.text.specs.Digits.{digit, decimal, hex, hex8}
use Rattle.text.specs.Promise.{AddPromise}
use Rattle.text.specs.declared.write.Cursor.{Cursor}
use Rattle.text.proofs.Tens.{decimal_small, decimal-more, decimal_some}

-- a promise kept for a piece is kept for one that is equal
pub add_of : (d : List ℕ) (c : Cursor) (s t : List ℕ) (r : Cursor) (x : List ℕ) → s ≡ t → AddPromise d c s r x → AddPromise d c t r x
add_of d c s t r x e p = rw e at p

pub length_hex : (l : List ℕ) → length (hex l) ≡ 2 * length l
length_hex [] = refl
length_hex (b ∷ l) = omega (arith, length_hex l)

hex-snoc : (l : List ℕ) (b : ℕ) → hex (l ++ (b ∷ [])) ≡ (hex l ++ (digit (b / 16) ∷ [])) ++ (digit (b % 16) ∷ [])
hex-snoc [] b = refl
hex-snoc (a ∷ l) b = ap (λ (q : List ℕ). digit (a / 16) ∷ digit (a % 16) ∷ q) (hex-snoc l b)

-- one turn of writing hex
pub hex_turn : (x d s : List ℕ) (a i p q : ℕ) → x ≡ pasted d a (hex (take i s)) → i < length s → a + 2 * length s ≤ length d
    → p ≡ digit (get_or s i 0 / 16) → q ≡ digit (get_or s i 0 % 16)
    → set (set x (a + 2 * i) p) (a + 2 * i + 1) q ≡ pasted d a (hex (take (i + 1) s))
hex_turn x d s a i p q e h k f g =
    let b : ℕ = get_or s i 0 in
    let y : List ℕ = hex (take i s) in
    let m : length y ≡ 2 * i = omega (arith, length_hex (take i s), length-take-le i s (omega arith)) in
    let n : length (y ++ (digit (b / 16) ∷ [])) ≡ 2 * i + 1 = omega (arith, length-append y (digit (b / 16) ∷ [])) in
    let o : a + 2 * i + 1 ≡ a + (2 * i + 1) = omega arith in
    ap₂ (λ (u v : ℕ). set (set x (a + 2 * i) u) (a + 2 * i + 1) v) f g
    ∙ ap (λ (u : List ℕ). set (set u (a + 2 * i) (digit (b / 16))) (a + 2 * i + 1) (digit (b % 16))) e
    ∙ ap (λ (u : List ℕ). set u (a + 2 * i + 1) (digit (b % 16))) (pasted-more d y a (2 * i) (digit (b / 16)) m (omega arith))
    ∙ ap (λ (j : ℕ). set (pasted d a (y ++ (digit (b / 16) ∷ []))) j (digit (b % 16))) o
    ∙ pasted-more d (y ++ (digit (b / 16) ∷ [])) a (2 * i + 1) (digit (b % 16)) n (omega arith)
    ∙ ap (pasted d a) (sym (hex-snoc (take i s) b) ∙ ap hex (sym (take-suc s i 0 h) ∙ ap (λ (j : ℕ). take j s) (sym (add-one i))))

-- the last digit of what is left, put in front of the digits that are there
pub digit_turn : (l out : List ℕ) (n at v : ℕ) → 0 < at → at ≤ length out → l ≡ decimal n ++ drop at out → 10 ≤ n → v ≡ digit (n % 10)
    → l ≡ decimal (n / 10) ++ drop (at - 1) (set out (at - 1) v)
digit_turn l out n at v h k e g f =
    let i : suc (at - 1) ≡ at = omega arith in
    e
    ∙ ap (λ (q : List ℕ). q ++ drop at out) (decimal-more n g)
    ∙ append_snoc (decimal (n / 10)) (digit (n % 10)) (drop at out)
    ∙ ap₂ (λ (u : ℕ) (j : ℕ). decimal (n / 10) ++ u ∷ drop j out) (sym f) (sym i)
    ∙ ap (λ (q : List ℕ). decimal (n / 10) ++ q) (sym (drop-set out (at - 1) v (omega arith)))

-- the first digit, put in front of the others
pub digit_last : (l out : List ℕ) (n at v : ℕ) → 0 < at → at ≤ length out → l ≡ decimal n ++ drop at out → n < 10 → v ≡ digit n
    → drop (at - 1) (set out (at - 1) v) ≡ l
digit_last l out n at v h k e g f =
    let i : suc (at - 1) ≡ at = omega arith in
    drop-set out (at - 1) v (omega arith)
    ∙ ap₂ (λ (u : ℕ) (j : ℕ). u ∷ drop j out) f i
    ∙ sym (e ∙ ap (λ (q : List ℕ). q ++ drop at out) (decimal_small n g))

-- how the room for what is left falls
pub digits_left : (n at : ℕ) → 10 ≤ n → length (decimal n) ≤ at → (length (decimal (n / 10)) ≤ at - 1) × (1 < at)
digits_left n at h k =
    let e : length (decimal n) ≡ length (decimal (n / 10)) + 1 =
    ap length (decimal-more n h) ∙ length-append (decimal (n / 10)) (digit (n % 10) ∷ []) in
    (omega (arith, decimal_some (n / 10)), omega (arith, decimal_some (n / 10)))

-- eight hex digits are four bytes in hex, the most significant first
pub hex8_be : (n : ℕ) → hex (be 4 n) ≡ hex8 n
unfolding hex8
hex8_be n =
    let a : n / 256 / 256 / 256 % 256 / 16 ≡ n / 16 / 16 / 16 / 16 / 16 / 16 / 16 % 16 = omega arith in
    let b : n / 256 / 256 / 256 % 256 % 16 ≡ n / 16 / 16 / 16 / 16 / 16 / 16 % 16 = omega arith in
    let c : n / 256 / 256 % 256 / 16 ≡ n / 16 / 16 / 16 / 16 / 16 % 16 = omega arith in
    let d : n / 256 / 256 % 256 % 16 ≡ n / 16 / 16 / 16 / 16 % 16 = omega arith in
    let e : n / 256 % 256 / 16 ≡ n / 16 / 16 / 16 % 16 = omega arith in
    let f : n / 256 % 256 % 16 ≡ n / 16 / 16 % 16 = omega arith in
    let g : n % 256 / 16 ≡ n / 16 % 16 = omega arith in
    let h : n % 256 % 16 ≡ n % 16 = omega arith in
    rw (a, b, c, d, e, f, g, h)

pub length-hex8 : (n : ℕ) → length (hex8 n) ≡ 8
unfolding hex8
length-hex8 n = refl
