-- `read_response` keeps its promise where an algorithm is not carried.
use mathlib.Core.Path.{sym}
use Rattle.std.proofs.lemmas.Result.{err_from_is_err_and}
use Rattle.messages.specs.OpenSession.{response_numbers}
use Rattle.session.proofs.Chains.{not_carried}
use Rattle.session.proofs.response.read_response.Goals as goal

pub returns-in_err-agreed : goal.returns-in_err-agreed
unfolding response_numbers
returns-in_err-agreed c =
    let e = err_from_is_err_and c.from_residual-in_err-agreed.result c.from_residual-in_err-agreed.ensures.1 in
    rw (e.1, e.2) (not_carried c.args.state c.args.message.now _ _ _ c.in_ok-r.ensures (sym c.in_ok-check_ids.ensures) c.in_err-agreed.ensures)
