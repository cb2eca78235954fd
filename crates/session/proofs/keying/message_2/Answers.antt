-- `message_2` keeps its promise: the first stage keeps the record, the second closes it, the third proves.
use Rattle.session.specs.Steps.{two_of}
use lib.ListN.{length}
use mathlib.Core.Path.{sym}
use native.Mathlib.Omega.{arith}
use Rattle.refusal.proofs.Order.{then_refuse}
use Rattle.session.proofs.Makes.{code_inside}
use Rattle.session.specs.Constants.{longest_password}
use Rattle.session.proofs.Chains.{two_known}
use Rattle.session.proofs.Refusals.{ready_two_keeps, heard_two_shuts}
use Rattle.session.proofs.Stages.{kept, shut, second_stop, second_go, promise_as}
use Rattle.session.proofs.keying.message_2.Goals as goal

pub answer_message-requires : goal.answer_message-requires
answer_message-requires c =
    let a = c.args in
    let k = two_known longest_password a.state a.kg.now a.password.now (length a.out.now) (sym c.in_default.ensures) in
    (omega arith, omega arith, k.2, code_inside a.state a.message.now c.in-Ok.f (sym c.in-Ok.ensures))

pub returns-in-Err : goal.returns-in-Err
unfolding two_of
returns-in-Err c =
    let a = c.args in
    let e = sym c.in-Err.ensures in
    let k = ready_two_keeps longest_password a.state a.kg.now a.password.now _ _ _ e in
    kept _ a.state a.out.now c.in-Err.r _ (then_refuse _ _ _ _ e) k c.refuse.ensures

pub returns-in-Err-read_message : goal.returns-in-Err-read_message
unfolding two_of
returns-in-Err-read_message c =
    let a = c.args in
    let r = c.in-Err-read_message in
    let u = sym r.ensures in
    let k = heard_two_shuts a.state a.message.now _ _ u in
    shut _ a.state a.out.now r.r _ _ (second_stop _ _ _ tt _ _ (sym c.in_default.ensures) u) k c.make_closed.ensures c.refuse-in-Err-read_message.ensures

pub returns-in-Ok : goal.returns-in-Ok
unfolding two_of
returns-in-Ok c =
    let a = c.args in
    promise_as _ _ a.state a.out.now _ _ (second_go _ _ _ tt _ (sym c.in_default.ensures) (sym c.in-Ok.ensures)) c.answer_message.ensures
