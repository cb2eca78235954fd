use Rattle.std.proofs.Common.{refl, arith}
use Rattle.aes.specs.Key.{words, powers}
use Rattle.aes.specs.Schedule.{keys_of}
use Rattle.aes.proofs.Keys.{key_first, key_turn, powers_turn, key_end}
use Rattle.aes.proofs.Aes128.new.Goals as goal

pub loop-n-init : goal.loop-n-init
unfolding words powers
loop-n-init c =
    let f = key_first c.args.key _ _ _ c.well_formed.0.1.0.1 refl c.put.ensures in
    (f.0, f.1, refl, refl)

pub loop-n-preserved : goal.loop-n-preserved
loop-n-preserved c =
    let l = c.loop-n in
    let t = key_turn _ l.n _ _ _ _ _ _ (omega arith) l.invariant c.make_next_key-k.ensures c.put-in-loop-n.ensures in
    (t.0, t.1, t.2, powers_turn l.n _ _ l.invariant.3 c.xtime-rc.ensures)

pub returns : goal.returns
unfolding keys_of
returns c = key_end _ _ c.loop-n.n (omega arith) c.loop-n.invariant.0 c.loop-n.invariant.1
