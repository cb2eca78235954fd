-- `count_name` keeps its promise: the array has sixteen bytes.
use borrow.Author.Rules.{rules}
use Rattle.messages.proofs.Names.{name_counted}
use Rattle.messages.proofs.rakp_1.count_name.Goals as goal

pub returns : goal.returns
returns c = name_counted c.args.u _ (search rules) (search rules)
