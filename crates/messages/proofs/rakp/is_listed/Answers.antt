-- `is_listed` keeps its promise: the library's search is the table's.
use mathlib.Core.Path.{◌∙◌}
use Rattle.messages.proofs.Tests.{listed}
use Rattle.messages.proofs.rakp.is_listed.Goals as goal

pub returns : goal.returns
returns c = c.contains.ensures.value ∙ listed c.args.b c.args.list.now
