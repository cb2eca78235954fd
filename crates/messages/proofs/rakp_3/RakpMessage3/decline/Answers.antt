-- `RakpMessage3::decline` keeps its promise: one put writes the whole message.
use mathlib.Core.Path.{refl}
use Rattle.octets.proofs.Place.{put_of}
use Rattle.messages.specs.Rakp.{declined3}
use Rattle.messages.proofs.Writing.{one_no, one_yes}
use Rattle.messages.proofs.rakp_3.RakpMessage3.decline.Goals as goal

pub returns-then-not-put : goal.returns-then-not-put
unfolding declined3
returns-then-not-put c =
    let a = c.args in
    let put = c.put in
    let make-head = c.make_head-head in
    one_no (declined3 a.self) a.out.now _ _
    (put_of a.out.now 0 make-head.result (declined3 a.self) _ _ make-head.ensures put.ensures)
    (c.if-not-put.true)

pub returns : goal.returns
unfolding declined3
returns c =
    let a = c.args in
    let put = c.put in
    let make-head = c.make_head-head in
    one_yes (declined3 a.self) a.out.now 8 _ _ refl
    (put_of a.out.now 0 make-head.result (declined3 a.self) _ _ make-head.ensures put.ensures)
    (c.if-not-put.false)
