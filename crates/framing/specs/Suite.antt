-- What a session's algorithms and keys fix, as the frame rules see it (docs/RULES.md, 6.3 and 6.4), and all that the
-- theorems on frames ask of the algorithms.
use Rattle.std.specs.Prelude.{ℕ, ◌%◌, Bool, true, List, ◌≡◌, length}
use Rattle.octets.specs.Bytes.{Bytes}

pub record Suite : Type 0 where
  -- whether the session encrypts, and whether its packets carry a code
  pub aes : Bool
  pub auth : Bool
  -- the length of the code
  pub m : ℕ
  -- the code of some bytes, and how many hash blocks are compressed to compute it over so many
  pub mac : List ℕ → List ℕ
  pub blocks : ℕ → ℕ
  -- encryption and decryption of whole blocks under an IV
  pub enc : List ℕ → List ℕ → List ℕ
  pub dec : List ℕ → List ℕ → List ℕ

pub record Laws (S : Suite) : Type 0 where
  pub mac_length : (l : List ℕ) → length (S.mac l) ≡ S.m
  pub enc_length : (iv l : List ℕ) → length l % 16 ≡ 0 → length (S.enc iv l) ≡ length l
  pub dec_length : (iv l : List ℕ) → length l % 16 ≡ 0 → length (S.dec iv l) ≡ length l
  pub dec_bytes : (iv l : List ℕ) → length iv ≡ 16 → Bytes iv → length l % 16 ≡ 0 → Bytes l → Bytes (S.dec iv l)
  -- each undoes the other
  pub dec_enc : (iv l : List ℕ) → length iv ≡ 16 → Bytes iv → length l % 16 ≡ 0 → Bytes l → S.dec iv (S.enc iv l) ≡ l
  pub enc_dec : (iv l : List ℕ) → length iv ≡ 16 → Bytes iv → length l % 16 ≡ 0 → Bytes l → S.enc iv (S.dec iv l) ≡ l

-- all that the size of a body asks of them: where there is encryption, that it keeps the length
abbrev pub KeepsLength : Suite → Type 0
KeepsLength S = S.aes ≡ true → (iv l : List ℕ) → length l % 16 ≡ 0 → length (S.enc iv l) ≡ length l

-- and the size of a packet: where there is a code, that it has its length
pub record Lengths (S : Suite) : Type 0 where
  pub mac_length : S.auth ≡ true → (l : List ℕ) → length (S.mac l) ≡ S.m
  pub enc_length : KeepsLength S
