-- `read_payload` keeps its promise: only what was taken is opened.
use mathlib.Core.Path.{sym, ◌∙◌}
use Rattle.once.proofs.Promised.{once_opened, once_refused}
use Rattle.once.proofs.read_payload.Goals as goal

pub returns-then-is_ok-clause-once_promise : goal.returns-then-is_ok-clause-once_promise
returns-then-is_ok-clause-once_promise c =
    once_opened _ _ _ c.read_checked-r.ensures _ _ c.check_number-o.ensures (sym c.is_ok.ensures.value ∙ c.if-is_ok.true) _ c.open_in_place.ensures

pub returns-else-is_ok-clause-once_promise : goal.returns-else-is_ok-clause-once_promise
returns-else-is_ok-clause-once_promise c =
    once_refused _ _ _ c.read_checked-r.ensures _ _ c.check_number-o.ensures (sym c.is_ok.ensures.value ∙ c.if-is_ok.false)
