-- `gather` keeps its promise: the line ends in what is left of the piece, or goes on.
use Rattle.cases.proofs.Gathering.{gather_end, gather_on}
use Rattle.cases.proofs.input.gather.Goals as goal

pub returns-then-n-left : goal.returns-then-n-left
returns-then-n-left c =
    let p = c.pick_part-left.ensures.0 in
    let f = c.field_end-n.ensures in
    let q = c.pick_part.ensures.0 in
    let a = c.args in
    gather_end a.s a.piece.now a.line.now _ _ _ p f q _ _ c.add-c.ensures c.if-n-left.true

pub returns : goal.returns
returns c =
    let p = c.pick_part-left.ensures.0 in
    let f = c.field_end-n.ensures in
    let q = c.pick_part.ensures.0 in
    let a = c.args in
    gather_on a.s a.piece.now a.line.now _ _ _ p f q _ _ c.add-c.ensures c.if-n-left.false
