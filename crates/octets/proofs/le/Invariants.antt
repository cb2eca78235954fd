-- `le` keeps its promise: the bytes written so far and the bytes of what is left are the number's bytes.
use Rattle.std.proofs.Common.{◌≡◌, ◌++◌, ◌-◌, length, take}
use Rattle.octets.specs.Number.{le}
use Rattle.octets.proofs.le.Given as goal

abbrev pub invariant-loop-x : goal.invariant-loop-x
invariant-loop-x g l = record {
  size : length l.x-items ≡ g.row.N;
  bytes : le g.row.N l.n ≡ take l.x-index l.x-items ++ le (g.row.N - l.x-index) l.rest;
}
