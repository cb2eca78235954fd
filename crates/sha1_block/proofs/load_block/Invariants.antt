-- `load_block` keeps its promise. Invariant: the first t words are the block's first t words.
use Rattle.std.proofs.Common.{◌≡◌, length, take}
use Rattle.sha1_block.specs.Block.{words}
use Rattle.sha1_block.proofs.load_block.Given as goal

abbrev pub invariant-loop-t : goal.invariant-loop-t
invariant-loop-t l = (length l.w ≡ 80) × (take l.t l.w ≡ words l.t l.m)
