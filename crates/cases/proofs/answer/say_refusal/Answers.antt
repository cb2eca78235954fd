-- `say_refusal` keeps its promise: the byte that is carried is said behind the number.
use mathlib.Core.Path.{◌≡◌, sym, ◌∙◌}
use Rattle.std.proofs.Common.{rules}
use mathlib.Core.Bool.{true}
use Rattle.std.specs.Prelude.{Some}
use Rattle.refusal.specs.Table.{carries_of, value_of}
use Rattle.refusal.proofs.Told.{carried}
use Rattle.cases.specs.Answer.{refusal_pieces}
use Rattle.cases.proofs.answer.say_refusal.Goals as goal

pub returns-in-Some : goal.returns-in-Some
unfolding refusal_pieces
returns-in-Some c =
    let e = carried c.args.r (Some c.in-Some.v) (sym c.in-Some.is ∙ c.value.ensures) in
    let f : carries_of c.args.r ≡ true = e.0 in
    let g : value_of c.args.r ≡ c.in-Some.v = sym e.1 in
    rw (f, g) (search rules)
