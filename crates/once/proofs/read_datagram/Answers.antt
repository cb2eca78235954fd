-- `read_datagram` keeps its promise: behind the outer bytes the packet's own order.
use native.Mathlib.Omega.{arith}
use mathlib.Core.Path.{refl, ap, sym, ◌∙◌}
use Rattle.refusal.specs.Answer.{told}
use Rattle.framing.proofs.Outer.{outer_inv}
use Rattle.once.proofs.Outer.{outer_refused, outer_passed}
use Rattle.once.proofs.read_datagram.Goals as goal

pub slice_bounds-read_payload-count : goal.slice_bounds-read_payload-count
slice_bounds-read_payload-count c =
    omega (arith, (outer_inv c.args.datagram.now _ (sym c.check_outer.ensures ∙ ap told c.in-Ok.is)).0)

pub slice_bounds-read_payload-start : goal.slice_bounds-read_payload-start
slice_bounds-read_payload-start c = slice_bounds-read_payload-count c

pub returns-in-Err-clause-once_promise : goal.returns-in-Err-clause-once_promise
returns-in-Err-clause-once_promise c =
    outer_refused _ _ _ c.check_outer.ensures _ _ (ap told c.in-Err.is)

pub returns-in-Ok-clause-once_promise : goal.returns-in-Ok-clause-once_promise
returns-in-Ok-clause-once_promise c =
    outer_passed _ _ _ c.check_outer.ensures _ _ (ap told c.in-Ok.is) _ refl _ _ c.read_payload.ensures.once_promise
