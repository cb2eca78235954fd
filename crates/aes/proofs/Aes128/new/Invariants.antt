-- `Aes128::new` keeps its promise: after n turns the first n + 1 round keys stand at the start.
use Prim.Native.Nat.{◌+◌, ◌*◌}
use mathlib.Core.Path.{◌≡◌}
use lib.ListN.{take, length}
use Rattle.aes.specs.Key.{schedule, words, powers}
use Rattle.aes.proofs.Aes128.new.Given as goal

abbrev pub invariant-loop-n : goal.invariant-loop-n
invariant-loop-n l =
    (take (16 * (l.n + 1)) l.keys ≡ schedule l.initial.k (l.n + 1)) × (length l.keys ≡ 176)
    × (l.k ≡ words l.initial.k (4 * l.n)) × (l.rc ≡ powers l.n)
