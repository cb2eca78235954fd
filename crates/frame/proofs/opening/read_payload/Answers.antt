-- `read_payload` keeps its promise: only what was accepted is opened.
use mathlib.Core.Path.{sym, ◌∙◌}
use Rattle.frame.proofs.Parts.{read_opened, read_refused}
use Rattle.frame.proofs.opening.read_payload.Goals as goal

pub returns-then-is_ok-clause-read_promise : goal.returns-then-is_ok-clause-read_promise
returns-then-is_ok-clause-read_promise c =
    read_opened _ _ _ c.read_checked-r.ensures (sym c.is_ok.ensures.value ∙ c.if-is_ok.true) _ c.open_in_place.ensures

pub returns-else-is_ok-clause-read_promise : goal.returns-else-is_ok-clause-read_promise
returns-else-is_ok-clause-read_promise c =
    read_refused _ _ _ c.read_checked-r.ensures (sym c.is_ok.ensures.value ∙ c.if-is_ok.false)
