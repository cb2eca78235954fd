use Rattle.std.proofs.Common.{◌∙◌, add-one, arith}
use Rattle.std.proofs.lemmas.Result.{err_from_is_err_and}
use Rattle.hmac.specs.Pieces.{joined}
use Rattle.sha1_block.specs.Block.{sha1_hash}
use Rattle.sha1_block.proofs.Laws.{sha1_sized}
use Rattle.running.proofs.Givens.{given_none, given_answer, given_more}
use Rattle.running.proofs.Promised.{handed_on}
use Rattle.refusal.proofs.Order.{refuse≢accept, accept_inj}
use Rattle.keys.proofs.Pieces.{joined_turn, joined_room, joined_all}
use Rattle.keys.proofs.state.feed_pieces.Goals as goal

pub returns-in_err-mac : goal.returns-in_err-mac
returns-in_err-mac c =
    let e = err_from_is_err_and c.from_residual.result c.from_residual.ensures.1 in
    rw (e.1, e.2) (handed_on _ c.in_err-mac.ensures)

pub loop-piece-init : goal.loop-piece-init
unfolding joined
loop-piece-init c = given_none sha1_hash sha1_sized _ c.in_ok-mac.ensures

pub loop-piece-preserved : goal.loop-piece-preserved
loop-piece-preserved c =
    let l = c.loop-piece in
    let r = joined_room c.args.pieces.now l.piece-index c.loop-piece-test.true in
    let q = given_more sha1_hash sha1_sized _ _ l.invariant _ c.in_ok-mac-2.ensures (omega arith) in
    rw (add-one, joined_turn c.args.pieces.now l.piece-index c.loop-piece-test.true) (record { key = q.2.key; state = accept_inj _ _ q.1 ∙ q.2.state })

pub returns-in_err-mac-2 : goal.returns-in_err-mac-2
returns-in_err-mac-2 c =
    let l = c.loop-piece in
    let r = joined_room c.args.pieces.now l.piece-index c.loop-piece-test.true in
    absurd (refuse≢accept _ _ _ (given_more sha1_hash sha1_sized _ _ l.invariant _ c.in_err-mac-2.ensures (omega arith)).1)

pub returns : goal.returns
returns c =
    let l = c.loop-piece in
    rw (joined_all c.args.pieces.now l.piece-index c.loop-piece-test.false) at (given_answer sha1_hash sha1_sized _ _ l.invariant)
