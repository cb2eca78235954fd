-- `put_pieces` keeps its promise: each piece starts where the last one ended.
use native.Mathlib.Omega.{arith}
use mathlib.Core.Path.{refl}
use Rattle.octets.proofs.Pieces.{four_pieces}
use Rattle.messages.proofs.rakp.put_pieces.Goals as goal

pub returns : goal.returns
returns c =
    let a = c.args in
    four_pieces a.out.now a.first.now a.second.now a.third.now a.fourth.now _ _ _ _ _ _ _ _ _ _ _
    refl refl refl (omega arith)
    c.put.ensures c.put-2.ensures c.put-3.ensures c.put-4.ensures
