use Rattle.std.proofs.Common.{◌≡◌, sym, ◌∙◌, arith, take_all, rules}
use Rattle.sha1_block.specs.Block.{schedule}
use Rattle.sha1_block.proofs.Laws.{more-more}
use Rattle.sha1_block.proofs.make_schedule.Goals as goal

pub loop-t-preserved : goal.loop-t-preserved
loop-t-preserved c =
    let l = c.loop-t in
    (search rules, more-more l.w _ l.t _ (omega arith) (omega arith) l.invariant.1 c.mix_word.ensures)

pub returns : goal.returns
unfolding schedule
returns c =
    let l = c.loop-t in
    let e : l.t ≡ 80 = omega arith in
    sym (take_all 80 l.w (omega arith)) ∙ (rw e at l.invariant.1)
