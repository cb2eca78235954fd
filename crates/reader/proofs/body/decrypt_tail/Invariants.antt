-- `decrypt_tail` keeps its promise: the first i blocks are those of the plain text.
use Prim.Native.Nat.{◌-◌, ◌*◌}
use mathlib.Core.Path.{◌≡◌}
use lib.ListN.{length, take, drop}
use Rattle.octets.specs.Place.{part}
use Rattle.reader.specs.Uncbc.{uncbc}
use Rattle.aes.specs.Schedule.{keys_of}
use Rattle.reader.proofs.body.decrypt_tail.Given as goal

abbrev pub invariant-loop-i : goal.invariant-loop-i
invariant-loop-i l = (length l.tail ≡ 256)
    × (take (16 * l.i) l.tail ≡ part (uncbc (keys_of l.w) (take 16 l.body) (drop 16 l.body)) (length l.body - 16 - l.t) (16 * l.i))
