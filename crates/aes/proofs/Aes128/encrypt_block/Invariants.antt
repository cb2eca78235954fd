-- `encrypt_block` keeps its promise: before round n the state has been through the rounds 1 to n - 1.
use Rattle.std.proofs.Common.{◌≡◌, ◌-◌}
use Rattle.aes.specs.Cipher.{rounds}
use Rattle.aes.proofs.Aes128.encrypt_block.Given as goal

abbrev pub invariant-loop-n : goal.invariant-loop-n
invariant-loop-n l = l.t ≡ rounds l.w (l.n - 1) l.initial.t
