-- `RakpMessage2::from_data` keeps its promise: each field at its place.
use native.Mathlib.Omega.{arith}
use mathlib.Core.Path.{sym, ◌∙◌, ap}
use Rattle.refusal.specs.Order.{accept}
use Rattle.refusal.proofs.Order.{then_accept}
use Rattle.octets.proofs.Filled.{filled-part}
use Rattle.messages.specs.Rakp.{fields2, message2}
use Rattle.messages.proofs.Reading.{test_passed, checked_size}
use Rattle.messages.proofs.rakp_2.RakpMessage2.from_data.Goals as goal

pub returns : goal.returns
unfolding message2 fields2
returns c =
    let m = c.args.message.now in
    let e = test_passed _ _ c.check_head.ensures c.in_ok-check_head.was in
    let s = checked_size _ 40 _ _ m e in
    let random = c.cut.ensures ∙ filled-part 16 m 8 (omega arith) in
    let guid = c.cut-2.ensures ∙ filled-part 16 m 24 (omega arith) in
    record { answer = ap accept (rw (c.load_le4.ensures, guid, random)) ∙ sym (then_accept _ _ _ e) }
