-- Bytes stay bytes: laws of `Bytes` under what is done with lists.
use Prim.Native.Nat.{ℕ, zero, suc, ◌<◌}
use native.Mathlib.Omega.{arith}
use mathlib.Core.List.{List, [], ◌∷◌, ◌++◌}
use lib.ListN.{take, drop, replicate}
use Rattle.octets.specs.Bytes.{Bytes}
use Rattle.octets.specs.Place.{part}

pub bytes_nil : Bytes []
bytes_nil i = omega arith

pub bytes_cons : (b : ℕ) (l : List ℕ) → b < 256 → Bytes l → Bytes (b ∷ l)
bytes_cons b l h g zero = h
bytes_cons b l h g (suc i) = g i

pub bytes_tail : (b : ℕ) (l : List ℕ) → Bytes (b ∷ l) → Bytes l
bytes_tail b l h i = h (suc i)

pub bytes_append : (l m : List ℕ) → Bytes l → Bytes m → Bytes (l ++ m)
bytes_append [] m h g = g
bytes_append (b ∷ l) m h g = bytes_cons b (l ++ m) (h 0) (bytes_append l m (bytes_tail b l h) g)

pub bytes_take : (n : ℕ) (l : List ℕ) → Bytes l → Bytes (take n l)
bytes_take zero l h = bytes_nil
bytes_take (suc n) [] h = bytes_nil
bytes_take (suc n) (b ∷ l) h = bytes_cons b (take n l) (h 0) (bytes_take n l (bytes_tail b l h))

pub bytes_drop : (n : ℕ) (l : List ℕ) → Bytes l → Bytes (drop n l)
bytes_drop zero l h = h
bytes_drop (suc n) [] h = bytes_nil
bytes_drop (suc n) (b ∷ l) h = bytes_drop n l (bytes_tail b l h)

pub bytes_part : (l : List ℕ) (a n : ℕ) → Bytes l → Bytes (part l a n)
bytes_part l a n h = bytes_take n (drop a l) (bytes_drop a l h)

pub bytes_replicate : (n b : ℕ) → b < 256 → Bytes (replicate n b)
bytes_replicate zero b h = bytes_nil
bytes_replicate (suc n) b h = bytes_cons b (replicate n b) h (bytes_replicate n b h)
