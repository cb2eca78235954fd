-- `tell` keeps its promise: the line of what was found is added.
use Rattle.report.proofs.Telling.{tells}
use Rattle.report.proofs.tell.Goals as goal

pub returns : goal.returns
returns c =
    let read = c.read_packet in
    tells _ _ _ _ read.result _ read.ensures c.packet_line.ensures
