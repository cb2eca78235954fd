use Rattle.cases.proofs.Walk.{behind_next}
use Rattle.cases.proofs.split.pick_field.Goals as goal

pub loop-preserved : goal.loop-preserved
loop-preserved c =
    let l = c.loop in
    let p = c.pass_field-at in
    let e = behind_next 0x20 l.counter l.at p.result c.args.line.now l.invariant.1 p.ensures in
    (e.0, e.1)
