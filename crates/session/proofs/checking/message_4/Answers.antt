-- `message_4` keeps its promise: the first stage keeps the record, the second closes it.
use mathlib.Core.List.{[]}
use Rattle.refusal.specs.declared.Refusal.TheVariants.{WrongStep}
use Rattle.octets.proofs.Place.{begun_none}
use Rattle.session.specs.Steps.{four_of}
use mathlib.Core.Path.{refl, sym, ◌∙◌}
use Rattle.refusal.proofs.Order.{then_refuse, done_no, done_yes}
use Rattle.session.proofs.Chains.{four33, four_ready}
use Rattle.session.proofs.Refusals.{ready_four_keeps, heard_four_shuts}
use Rattle.session.proofs.Stages.{kept, shut, second_stop, second_go, promise_as, step_made}
use Rattle.session.proofs.checking.message_4.Goals as goal

pub returns-then-not-is_in_step : goal.returns-then-not-is_in_step
unfolding four_of
returns-then-not-is_in_step c =
    let a = c.args in
    let e = four33 a.state (sym c.is_in_step.ensures ∙ c.if-not-is_in_step.true) in
    kept _ a.state [] WrongStep _ (then_refuse _ _ _ _ e) (ready_four_keeps a.state _ _ e) c.refuse.ensures

pub returns-in-Err : goal.returns-in-Err
unfolding four_of
returns-in-Err c =
    let a = c.args in
    let t = four_ready a.state (sym c.is_in_step.ensures ∙ c.if-not-is_in_step.false) in
    let u = done_no _ _ _ (sym c.in-Err.ensures) in
    let k = heard_four_shuts a.state a.message.now _ _ u in
    shut _ a.state [] c.in-Err.r _ _ (second_stop _ _ _ tt _ _ t u) k c.make_closed.ensures c.refuse-in-Err.ensures

pub returns-in-Ok : goal.returns-in-Ok
unfolding four_of
returns-in-Ok c =
    let a = c.args in
    let t = four_ready a.state (sym c.is_in_step.ensures ∙ c.if-not-is_in_step.false) in
    let u = done_yes _ (sym c.in-Ok.ensures) in
    let m = step_made _ a.state [] _ 0 [] c.mark_open.ensures refl (sym (begun_none [])) in
    promise_as _ _ a.state [] _ _ (second_go _ _ _ tt _ t u.1) m
