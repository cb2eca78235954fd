-- `RakpMessage3::write` keeps its promise: the code starts where the head ended.
use native.Mathlib.Omega.{arith}
use mathlib.Core.List.{◌∷◌}
use mathlib.Core.Path.{refl}
use Rattle.octets.specs.Number.{le}
use Rattle.octets.proofs.Place.{put_of}
use Rattle.messages.specs.Rakp.{message3}
use Rattle.octets.proofs.Pieces.{put_first, put_next}
use Rattle.messages.proofs.Writing.{write_no, write_yes}
use Rattle.messages.proofs.rakp_3.RakpMessage3.write.Goals as goal

pub returns-then-out-lt-HEAD : goal.returns-then-out-lt-HEAD
unfolding message3
returns-then-out-lt-HEAD c =
    let a = c.args in
    write_no (message3 a.self a.code.now) a.out.now (omega arith)

pub returns : goal.returns
unfolding message3
returns c =
    let a = c.args in
    let put2 = c.put-2 in
    let put = c.put in
    let make-head = c.make_head-head in
    let d = a.out.now in
    let h = a.self.tag ∷ 0 ∷ 0 ∷ 0 ∷ le 4 a.self.system in
    let s₁ = put_first d h _ _ (put_of d 0 make-head.result h _ _ make-head.ensures put.ensures) (omega arith) in
    write_yes (message3 a.self a.code.now) d _ _ (omega arith) (omega arith)
    (put_next h d a.code.now _ 8 _ _ s₁ refl (omega arith) put2.ensures)
