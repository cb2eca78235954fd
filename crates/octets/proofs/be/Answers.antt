-- `be` keeps its promise: the bytes of `le`, read from the end.
use Rattle.std.proofs.Common.{◌∙◌, ap, arith, reverse}
use Rattle.octets.specs.Number.{le}
use Rattle.octets.proofs.Number.{reverse-le}
use Rattle.octets.proofs.be.Goals as goal

pub returns : goal.returns
returns g c =
    let w = g.row.N in
    let n = c.args.n in
    c.reverse.ensures.after ∙ ap reverse (c.le-b.ensures ∙ ap (le w) (omega arith)) ∙ reverse-le w n
