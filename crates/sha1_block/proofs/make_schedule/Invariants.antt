-- `make_schedule` keeps its promise. Invariant: the first t words are the schedule's first t words.
use Rattle.std.proofs.Common.{◌≡◌, ◌-◌, length, take}
use Rattle.sha1_block.specs.Block.{words, more}
use Rattle.sha1_block.proofs.make_schedule.Given as goal

abbrev pub invariant-loop-t : goal.invariant-loop-t
invariant-loop-t l = (length l.w ≡ 80) × (take l.t l.w ≡ more (l.t - 16) (words 16 l.m))
