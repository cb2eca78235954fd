use borrow.Author.Rules.{rules}
use Prim.Native.Nat.{ℕ, ◌+◌, ◌-◌, ◌*◌}
use native.Mathlib.Omega.{arith}
use mathlib.Core.Path.{◌≡◌, ◌∙◌, ap, subst}
use lib.ListN.{length, take, drop}
use Rattle.octets.specs.Place.{part}
use Rattle.reader.specs.Uncbc.{uncbc}
use Rattle.aes.specs.Schedule.{keys_of}
use Rattle.framing.proofs.Blocks.{tail_turn}
use Rattle.reader.proofs.body.decrypt_tail.Goals as goal

pub loop-i-preserved : goal.loop-i-preserved
loop-i-preserved c =
    let a = c.args in
    let l = a.body.now in
    let i = c.loop-i.i in
    let x = uncbc (keys_of a.w) (take 16 l) (drop 16 l) in
    let n : length c.decrypt_block-b.result ≡ 16 = search rules in
    let from : length l - a.t + 16 * i - 16 ≡ length l - 16 - a.t + 16 * i = omega arith in
    let next : 16 * i + 16 ≡ 16 * (i + 1) = omega arith in (
      c.put.auto.dst ∙ c.loop-i.invariant.0,
      subst (λ (k : ℕ). take k c.put.new.dst ≡ part x (length l - 16 - a.t) k) next
          (tail_turn c.loop-i.tail x c.decrypt_block-b.result c.put.new.dst (length l - 16 - a.t) (16 * i) _ c.loop-i.invariant.1
          (c.decrypt_block-b.ensures ∙ ap (λ (k : ℕ). part x k 16) from) n (omega arith) c.put.ensures),
    )
