-- `find_payload` keeps its promise: what the trailer leaves lies within the packet.
use mathlib.Core.Path.{ap, sym, ◌∙◌}
use lib.Seq.{length-take-le}
use Rattle.suite.specs.Told.{stage_told}
use Rattle.suite.specs.Session.{suite_of}
use Rattle.framing.proofs.Trailer.{before_left}
use Rattle.reader.proofs.find_payload.Goals as goal

pub slice_bounds-check_body-end : goal.slice_bounds-check_body-end
slice_bounds-check_body-end c =
    let a = c.args in
    sym (length-take-le _ a.packet.now
    (before_left (suite_of a.s) a.code.now a.packet.now _ (sym c.strip_trailer.ensures ∙ ap stage_told c.in_ok-n.was)))
