-- SHA-1 of whole blocks: FIPS 180-4, sections 4.1.1, 4.2.1, 5.3.1 and 6.1.2.
use Rattle.std.specs.Prelude.{ℕ, zero, suc, ◌+◌, ◌-◌, ◌*◌, cond, List, [], ◌∷◌, ◌++◌, bit_xor, nat_lt, slice_index}
use Rattle.octets.specs.Number.{be}
use Rattle.running.specs.Hash.{Hash, plus}
use Rattle.sha1_block.specs.Word.{rotl, word, ch, parity, maj}
use Rattle.sha1_block.specs.declared.Chain.{Chain}

-- 4.1.1: f_t
unfoldable pub f_t : ℕ → ℕ → ℕ → ℕ → ℕ
f_t t x y z = cond (nat_lt t 20) (ch x y z) (cond (nat_lt t 40) (parity x y z) (cond (nat_lt t 60) (maj x y z) (parity x y z)))

-- 4.2.1: K_t
unfoldable pub k_t : ℕ → ℕ
k_t t = cond (nat_lt t 20) 0x5a827999 (cond (nat_lt t 40) 0x6ed9eba1 (cond (nat_lt t 60) 0x8f1bbcdc 0xca62c1d6))

-- 5.3.1: the first chaining value
abbrev pub first : Chain
first = record { a = 0x67452301; b = 0xefcdab89; c = 0x98badcfe; d = 0x10325476; e = 0xc3d2e1f0 }

-- 6.1.2, step 1: the first n words of a block's schedule, n at most 16
unfoldable pub words : ℕ → List ℕ → List ℕ
words zero m = []
words (suc n) m = words n m ++ (word m (n * 4) ∷ [])

-- the word W_t for t from 16 on
abbrev pub next : List ℕ → ℕ → ℕ
next w t = rotl 1 (bit_xor (bit_xor (bit_xor (slice_index w (t - 3)) (slice_index w (t - 8))) (slice_index w (t - 14))) (slice_index w (t - 16)))

-- sixteen words w and n more
unfoldable pub more : ℕ → List ℕ → List ℕ
more zero w = w
more (suc n) w = more n w ++ (next (more n w) (16 + n) ∷ [])

unfoldable pub schedule : List ℕ → List ℕ
schedule m = more 64 (words 16 m)

-- 6.1.2, step 3: round t with the word w
unfoldable pub round : ℕ → ℕ → Chain → Chain
round t w v =
    record {
      a = plus (plus (plus (plus (rotl 5 v.a) (f_t t v.b v.c v.d)) v.e) (k_t t)) w;
      b = v.a;
      c = rotl 30 v.b;
      d = v.c;
      e = v.d;
    }

-- the rounds 0 to n - 1
unfoldable pub rounds : ℕ → List ℕ → Chain → Chain
rounds zero w v = v
rounds (suc n) w v = round n (slice_index w n) (rounds n w v)

-- 6.1.2, step 4: the sums of the chaining value h and what the rounds left
unfoldable pub added : Chain → Chain → Chain
added h v =
    record {
      a = plus v.a h.a;
      b = plus v.b h.b;
      c = plus v.c h.c;
      d = plus v.d h.d;
      e = plus v.e h.e;
    }

-- 6.1.2: one block m
unfoldable pub compress : Chain → List ℕ → Chain
compress h m = added h (rounds 80 (schedule m) h)

-- 6.1.2, end: the twenty bytes of a chaining value
abbrev pub bytes_of : Chain → List ℕ
bytes_of h = be 4 h.a ++ be 4 h.b ++ be 4 h.c ++ be 4 h.d ++ be 4 h.e

-- SHA-1 as a hash over blocks
unfoldable pub sha1_hash : Hash Chain
sha1_hash = record { compress = compress; first = first; code = bytes_of; size = 20 }
