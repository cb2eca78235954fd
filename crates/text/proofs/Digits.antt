-- Laws of single digits: a digit's character and a character's digit, each way undone by the other.
use Prim.Native.Nat.{ℕ, ◌+◌, ◌-◌, ◌<◌, ◌≤◌}
use native.Mathlib.Omega.{arith}
use mathlib.Core.Logic.{⊎_elim}
use mathlib.Core.Path.{◌≡◌, ◌∙◌, ap}
use borrow.Author.Tests.{lt-ltb, le-ltb, le-leb, lt-leb}
use Rattle.octets.proofs.Order.{lt_or_le}
use Rattle.text.specs.Digits.{digit, worth}

pub digit_low : (d : ℕ) → d < 10 → digit d ≡ 48 + d
unfolding digit
digit_low d h = rw (lt-ltb d 10 h)

pub digit_high : (d : ℕ) → 10 ≤ d → digit d ≡ 87 + d
unfolding digit
digit_high d h = rw (le-ltb d 10 h)

pub worth_below : (c : ℕ) → c < 48 → worth c ≡ 16
unfolding worth
worth_below c h =
    let k : c < 97 = omega arith in
    rw (lt-leb 48 c h, lt-leb 97 c k)

pub worth_low : (c : ℕ) → 48 ≤ c → c ≤ 57 → worth c ≡ c - 48
unfolding worth
worth_low c h k = rw (le-leb 48 c h, le-leb c 57 k)

pub worth_mid : (c : ℕ) → 57 < c → c < 97 → worth c ≡ 16
unfolding worth
worth_mid c h k =
    let l : 48 ≤ c = omega arith in
    rw (le-leb 48 c l, lt-leb c 57 h, lt-leb 97 c k)

pub worth_high : (c : ℕ) → 97 ≤ c → c ≤ 102 → worth c ≡ c - 87
unfolding worth
worth_high c h k =
    let l : 48 ≤ c = omega arith in
    let m : 57 < c = omega arith in
    rw (le-leb 48 c l, lt-leb c 57 m, le-leb 97 c h, le-leb c 102 k)

pub worth_above : (c : ℕ) → 102 < c → worth c ≡ 16
unfolding worth
worth_above c h =
    let l : 48 ≤ c = omega arith in
    let m : 57 < c = omega arith in
    let n : 97 ≤ c = omega arith in
    rw (le-leb 48 c l, lt-leb c 57 m, le-leb 97 c n, lt-leb c 102 h)

-- what a character is worth, by where it stands among the characters
by_place : (c : ℕ) (P : ℕ → Type 0) → (c < 48 → P 16) → (48 ≤ c → c ≤ 57 → P (c - 48)) → (57 < c → c < 97 → P 16)
    → (97 ≤ c → c ≤ 102 → P (c - 87)) → (102 < c → P 16) → P (worth c)
by_place c P a b d e f =
    ⊎_elim
    (λ (h : c < 48). rw (worth_below c h) (a h))
    (λ (h : 48 ≤ c).
    ⊎_elim
    (λ (k : 57 < c).
    ⊎_elim
    (λ (l : c < 97). rw (worth_mid c k l) (d k l))
    (λ (l : 97 ≤ c).
    ⊎_elim
    (λ (m : 102 < c). rw (worth_above c m) (f m))
    (λ (m : c ≤ 102). rw (worth_high c l m) (e l m))
    (lt_or_le 102 c))
    (lt_or_le c 97))
    (λ (k : c ≤ 57). rw (worth_low c h k) (b h k))
    (lt_or_le 57 c))
    (lt_or_le c 48)

-- a digit's character is that digit
pub worth-digit : (d : ℕ) → d < 16 → worth (digit d) ≡ d
worth-digit d h =
    ⊎_elim
    (λ (k : d < 10).
    ap worth (digit_low d k) ∙ worth_low (48 + d) (omega arith) (omega arith) ∙ omega arith)
    (λ (k : 10 ≤ d).
    ap worth (digit_high d k) ∙ worth_high (87 + d) (omega arith) (omega arith) ∙ omega arith)
    (lt_or_le d 10)

-- a character that is a digit is that digit's character
pub digit-worth : (c : ℕ) → worth c < 16 → digit (worth c) ≡ c
digit-worth c =
    by_place c (λ (w : ℕ). w < 16 → digit w ≡ c)
    (λ h g. absurd (omega arith))
    (λ h k g. digit_low (c - 48) (omega arith) ∙ omega arith)
    (λ h k g. absurd (omega arith))
    (λ h k g. digit_high (c - 87) (omega arith) ∙ omega arith)
    (λ h g. absurd (omega arith))
