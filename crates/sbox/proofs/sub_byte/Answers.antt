-- `sub_byte` keeps its promise: the entry follows the rule.
use Rattle.sbox.proofs.Table.{sbox_rule}
use Rattle.sbox.proofs.sub_byte.Goals as goal

pub returns : goal.returns
returns c = rw c.from.ensures (sbox_rule c.args.x c.ranges.x.fits)
