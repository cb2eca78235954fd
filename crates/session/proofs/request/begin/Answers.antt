-- `begin` keeps its promise: a refused call's record was closed and is; what passed is written.
use mathlib.Core.Path.{sym}
use Rattle.session.proofs.Accepted.{begin_tells}
use Rattle.session.proofs.Refusals.{begin_quiet}
use Rattle.session.proofs.Stages.{begin_stop}
use Rattle.session.proofs.request.begin.Goals as goal

pub write_request-requires : goal.write_request-requires
write_request-requires c =
    let t = begin_tells _ _ _ _ (sym c.in-Ok.ensures) in
    (t.5, t.1)

pub returns-in-Err : goal.returns-in-Err
returns-in-Err c =
    let e = sym c.in-Err.ensures in
    begin_stop _ c.args.out.now c.in-Err.r _ _ e (begin_quiet _ _ _ _ _ e) c.make_closed.ensures c.refuse.ensures
