-- `put_pad` keeps its promise: the first p + 1 bytes of the array.
use Rattle.framing.proofs.Fills.{pad_put}
use Rattle.writer.proofs.put_pad.Goals as goal

pub returns : goal.returns
returns c =
    pad_put _ _ _ _ _ c.requires.0 c.requires.1 c.put.ensures
