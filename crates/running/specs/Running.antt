-- The running hash (docs/RULES.md, 3.2 and 3.3): what each call makes of a state, any state, and the state that the bytes of a
-- message leave. Blocks and padding are those of FIPS 180-4, sections 5.1.1, 6.1.2 and 6.2.2.
use Rattle.std.specs.Prelude.{ℕ, ◌*◌, ◌/◌, ◌%◌, List, ◌++◌, length, take, drop}
use Rattle.octets.specs.Place.{filled}
use Rattle.running.specs.Hash.{Hash, plus, runs, pad}

-- the chaining value, the buffer of 64 bytes, the bytes given, the blocks compressed
pub record State (C : Type 0) : Type 0 where
  pub h : C
  pub buf : List ℕ
  pub len : ℕ
  pub blocks : ℕ

-- a buffer of 64 bytes with l at its front, zeros behind
abbrev pub room : List ℕ → List ℕ
room l = filled 64 l

-- the bytes that wait for their block to be full
unfoldable pub pending : {C : Type 0} → State C → List ℕ
pending st = take (st.len % 64) st.buf

-- what a state hashes at its end: the bytes that wait and the padding
unfoldable pub closing : {C : Type 0} → State C → List ℕ
closing st = pending st ++ pad st.len

unfoldable pub count_of : {C : Type 0} → State C → ℕ
count_of st = plus st.blocks (length (closing st) / 64)

module _ {C : Type 0} (H : Hash C) where
  -- the whole blocks of l go in, the rest waits; n is the number of new bytes
  unfoldable pub absorb : State C → ℕ → List ℕ → State C
  absorb st n l =
      record {
        h = runs H.compress (length l / 64) st.h l;
        buf = room (drop (length l / 64 * 64) l);
        len = plus st.len n;
        blocks = plus st.blocks (length l / 64);
      }

  -- a state after the piece s
  unfoldable pub taken : State C → List ℕ → State C
  taken st s = absorb st (length s) (pending st ++ s)

  unfoldable pub digest_of : State C → List ℕ
  digest_of st = H.code (runs H.compress (length (closing st) / 64) st.h (closing st))

  -- the state that the bytes of m leave
  unfoldable pub after : List ℕ → State C
  after m =
      record {
        h = runs H.compress (length m / 64) H.first m;
        buf = room (drop (length m / 64 * 64) m);
        len = length m;
        blocks = length m / 64;
      }
