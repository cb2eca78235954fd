-- `fields` keeps its promise: at the line's end every separator was passed.
use Rattle.std.proofs.Common.{arith, ap}
use lib.Dec.{eqb}
use lib.Seq.{take_all}
use Rattle.std.specs.List.{count_by}
use Rattle.text.proofs.Cuts.{length_cut}
use Rattle.text.proofs.split.fields.Goals as goal

pub returns : goal.returns
returns c =
    let l = c.args.line.now in
    let s = c.args.separator in
    let e = ap (count_by (λ x. eqb x s)) (take_all c.loop-c.c-index l (omega (arith, c.loop-c.auto.c-index-end, c.loop-c-test.false))) in
    omega (arith, c.loop-c.invariant, e, length_cut s l)
