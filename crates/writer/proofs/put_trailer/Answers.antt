-- `put_trailer` keeps its promise: the first q + 2 bytes of the array.
use Rattle.framing.proofs.Fills.{next_put}
use Rattle.writer.proofs.put_trailer.Goals as goal

pub returns : goal.returns
returns c =
    next_put _ _ _ _ _ c.requires.0 c.requires.1 c.put.ensures
