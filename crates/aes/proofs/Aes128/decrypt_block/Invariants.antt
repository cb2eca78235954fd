-- `decrypt_block` keeps its promise: the rounds that are left make of the state what all of them make of the first.
use Rattle.std.proofs.Common.{◌≡◌, ◌-◌}
use Rattle.aes.specs.Cipher.{unrounds}
use Rattle.aes.proofs.Aes128.decrypt_block.Given as goal

abbrev pub invariant-loop-n : goal.invariant-loop-n
invariant-loop-n l = unrounds l.w (l.n - 1) l.t ≡ unrounds l.w 9 l.initial.t
