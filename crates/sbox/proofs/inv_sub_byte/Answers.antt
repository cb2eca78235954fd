-- `inv_sub_byte` keeps its promise: the entry follows the rule.
use Rattle.sbox.proofs.Table.{unsbox_rule}
use Rattle.sbox.proofs.inv_sub_byte.Goals as goal

pub returns : goal.returns
returns c = rw c.from.ensures (unsbox_rule c.args.x c.ranges.x.fits)
