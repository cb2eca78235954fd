-- `open_response` keeps its promise: the first stage keeps the record, the second closes it, the third writes.
use Rattle.session.specs.Steps.{open_of}
use lib.ListN.{length}
use mathlib.Core.Path.{sym}
use Rattle.refusal.proofs.Order.{then_refuse}
use Rattle.session.proofs.Chains.{open_known}
use Rattle.session.proofs.Refusals.{ready_open_keeps, heard_open_shuts}
use Rattle.session.specs.Record.{agreed_of}
use Rattle.session.proofs.Stages.{beside_no, beside_yes, kept, shut, second_stop, second_go, promise_as}
use Rattle.session.proofs.response.open_response.Goals as goal

pub write_message_1-requires : goal.write_message_1-requires
write_message_1-requires c =
    let k = open_known c.args.state (length c.args.out.now) (sym c.in_default.ensures) in
    (k.1, k.0, (beside_yes _ agreed_of _ _ (sym c.in-Ok.ensures)).1)

pub returns-in-Err : goal.returns-in-Err
unfolding open_of
returns-in-Err c =
    let a = c.args in
    let e = sym c.in-Err.ensures in
    kept _ a.state a.out.now c.in-Err.r _ (then_refuse _ _ _ _ e) (ready_open_keeps a.state _ _ _ e) c.refuse.ensures

pub returns-in-Err-read_response : goal.returns-in-Err-read_response
unfolding open_of
returns-in-Err-read_response c =
    let a = c.args in
    let r = c.in-Err-read_response in
    let u = beside_no _ agreed_of _ _ (sym r.ensures) in
    let k = heard_open_shuts a.state a.message.now _ _ u in
    shut _ a.state a.out.now r.r _ _ (second_stop _ _ _ tt _ _ (sym c.in_default.ensures) u) k c.make_closed.ensures c.refuse-in-Err-read_response.ensures

pub returns-in-Ok : goal.returns-in-Ok
unfolding open_of
returns-in-Ok c =
    promise_as _ _ c.args.state c.args.out.now _ _ (second_go _ _ _ tt _ (sym c.in_default.ensures) (beside_yes _ agreed_of _ _ (sym c.in-Ok.ensures)).0) c.write_message_1.ensures
