-- `sik` keeps its promise, under the key that `kg` chose.
use Rattle.keys.proofs.Texts.{joined_sik}
use Rattle.keys.proofs.state.sik.Goals as goal

pub returns : goal.returns
returns c = rw (joined_sik c.args.rm c.args.rc _, c.kg.ensures.0) at c.make_code.ensures
