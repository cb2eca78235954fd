-- A hash over blocks of 64 bytes with a length of 64 bits: FIPS 180-4, sections 5.1.1 (padding), 5.2.1 (blocks), 6.1.2 and 6.2.2
-- (the hash), over any chaining value C and any compression.
use Rattle.std.specs.Prelude.{ℕ, zero, suc, ◌+◌, ◌-◌, ◌*◌, ◌/◌, ◌%◌, ◌^◌, ◌≤◌, ◌≡◌, List, ◌∷◌, ◌++◌, length, take, drop, replicate}
use Rattle.octets.specs.Number.{be}
use Rattle.octets.specs.Bytes.{Bytes}

-- 2.2.2: addition modulo 2^32; a state's counts of bytes and of blocks wrap so, too
abbrev pub plus : ℕ → ℕ → ℕ
plus a b = (a + b) % 2 ^ 32

-- what makes a hash: one block, the first chaining value, the bytes of a chaining value and their number
pub record Hash (C : Type 0) : Type 0 where
  pub compress : C → List ℕ → C
  pub first : C
  pub code : C → List ℕ
  pub size : ℕ

-- what the laws ask of it: codes are bytes of one length, which leaves room for the padding in a block
pub record Sized {C : Type 0} (H : Hash C) : Type 0 where
  pub long : (c : C) → length (H.code c) ≡ H.size
  pub short : H.size ≤ 55
  pub bytes : (c : C) → Bytes (H.code c)

-- the first k blocks of 64 bytes of m, one after another
unfoldable pub runs : {C : Type 0} → (C → List ℕ → C) → ℕ → C → List ℕ → C
runs compress zero h m = h
runs compress (suc k) h m = runs compress k (compress h (take 64 m)) (drop 64 m)

-- 5.1.1, in bytes: the least number of zero bytes that, with n bytes and the byte 80 (hex) before them, leaves 56 modulo 64
abbrev pub zeros : ℕ → ℕ
zeros n = (119 - n % 64) % 64

-- 5.1.1: what is put behind a message of n bytes: the bit 1, zeros, the length in bits as 64 bits
unfoldable pub pad : ℕ → List ℕ
pad n = 0x80 ∷ (replicate (zeros n) 0 ++ be 8 (n * 8))

unfoldable pub padded : List ℕ → List ℕ
padded m = m ++ pad (length m)

-- 5.2.1: how many blocks of 64 bytes the padded message has
unfoldable pub block_count : List ℕ → ℕ
block_count m = length (padded m) / 64

-- 6.1.2, 6.2.2
unfoldable pub digest : {C : Type 0} → Hash C → List ℕ → List ℕ
digest H m = H.code (runs H.compress (block_count m) H.first (padded m))
