use Rattle.std.proofs.Common.{arith, rules}
use Rattle.sha1_block.proofs.Laws.{words_more}
use Rattle.sha1_block.proofs.load_block.Goals as goal

pub loop-t-preserved : goal.loop-t-preserved
loop-t-preserved c =
    let l = c.loop-t in
    let a = c.as_chunks.ensures in
    let n = c.told-m in
    (search rules, words_more l.w c.args.m.now _ l.t _ _ (omega arith) l.invariant.1 a.front (omega arith) c.from_be_bytes.ensures)
