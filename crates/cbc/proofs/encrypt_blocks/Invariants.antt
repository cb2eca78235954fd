-- `encrypt_blocks` keeps its promise: what is done and the run over the rest are always the whole run.
use Prim.Native.Nat.{◌-◌, ◌*◌}
use mathlib.Core.Path.{◌≡◌}
use mathlib.Core.List.{◌++◌}
use lib.ListN.{take, drop, length}
use Rattle.aes.specs.Schedule.{keys_of}
use Rattle.cbc.proofs.Run.{run, sealed}
use Rattle.cbc.proofs.encrypt_blocks.Given as goal

abbrev pub invariant-loop-i : goal.invariant-loop-i
invariant-loop-i l =
    (16 * l.n ≡ length l.s)
    × (take (16 * l.i) l.s ++ run (sealed (keys_of l.a)) (sealed (keys_of l.a)) l.v (l.n - l.i) (drop (16 * l.i) l.s)
    ≡ run (sealed (keys_of l.a)) (sealed (keys_of l.a)) l.initial.v l.n l.initial.s)
