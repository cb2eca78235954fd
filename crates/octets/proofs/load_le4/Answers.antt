-- `load_le4` keeps its promise: what is cut out, read as std reads it.
use Rattle.std.proofs.Common.{drop, arith}
use Rattle.std.proofs.lemmas.List.{length-take}
use Rattle.octets.specs.Place.{part}
use Rattle.octets.proofs.Number.{unle_four}
use Rattle.octets.proofs.load_le4.Goals as goal

pub returns : goal.returns
returns c =
    let a = c.args in
    let e = unle_four (part a.s.now a.at 4) (omega (arith, length-take 4 (drop a.at a.s.now))) in
    grind (arith, e)
