-- `is_allowed` keeps its promise: each byte is tested as the rule has it.
use mathlib.Core.Bool.{not, ◌&&◌}
use mathlib.Core.Path.{◌∙◌}
use lib.Dec.{eqb, ltb}
use borrow.Author.Rules.{rules}
use borrow.Author.Tests.{tests}
use Rattle.std.proofs.lemmas.Iterator.{YieldsList-from_slice}
use Rattle.std.proofs.lemmas.Iterator.Search.{all_from_yields_List}
use Rattle.messages.proofs.Tests.{allowed_each}
use Rattle.messages.proofs.rakp_1.is_allowed.Goals as goal

pub returns : goal.returns
returns c =
    all_from_yields_List (λ b. not (eqb b 0) && ltb b 128) _ _ _ c.all.ensures.ran (YieldsList-from_slice c.args.name.now cc)
    (λ x b q k. search (rules, tests))
    ∙ allowed_each c.args.name.now
