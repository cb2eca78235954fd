use Rattle.std.proofs.Common.{◌∙◌, arith, length-set}
use Rattle.octets.proofs.Number.{le_turn}
use Rattle.octets.proofs.le.Goals as goal

pub loop-x-preserved : goal.loop-x-preserved
loop-x-preserved g c =
    let l = c.loop-x in record {
      size = length-set l.x-items _ _ ∙ l.invariant.size;
      bytes = le_turn g.row.N l.x-index c.args.n l.rest l.x-items (omega arith) (omega arith) l.invariant.bytes;
    }
