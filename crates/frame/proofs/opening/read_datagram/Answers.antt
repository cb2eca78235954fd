-- `read_datagram` keeps its promise: behind the outer bytes the packet's own order.
use native.Mathlib.Omega.{arith}
use mathlib.Core.Path.{refl, ap, sym, ◌∙◌}
use Rattle.refusal.specs.Answer.{told}
use Rattle.framing.proofs.Outer.{outer_inv}
use Rattle.framing.proofs.InPlace.{outer_on}
use Rattle.frame.proofs.Promised.{reads}
use Rattle.frame.proofs.opening.read_datagram.Goals as goal

pub slice_bounds-read_payload-count : goal.slice_bounds-read_payload-count
slice_bounds-read_payload-count c =
    omega (arith, (outer_inv c.args.datagram.now _ (sym c.check_outer.ensures ∙ ap told c.in-Ok.is)).0)

pub slice_bounds-read_payload-start : goal.slice_bounds-read_payload-start
slice_bounds-read_payload-start c = slice_bounds-read_payload-count c

pub returns-in-Ok-clause-read_promise : goal.returns-in-Ok-clause-read_promise
returns-in-Ok-clause-read_promise c =
    let r = c.read_payload.ensures.read_promise in
    reads _ _ _ _ _
    (outer_on _ _ _ c.check_outer.ensures _ _ _ _ _ (ap told c.in-Ok.is) refl
    r.tells.answer r.tells.count r.buffer)
