-- `RakpMessage1::write` keeps its promise: its pieces are the message's. What stands for the random number may tell it byte by byte.
use native.Mathlib.Omega.{arith}
use borrow.Author.Rules.{rules}
use Rattle.octets.proofs.Tab.{tab_self}
use Rattle.messages.proofs.Writing.{write1_no, write1_told}
use Rattle.messages.proofs.rakp_1.RakpMessage1.write.Goals as goal

pub returns-then-out-n : goal.returns-then-out-n
returns-then-out-n c = write1_no c.args.self (search rules) _ c.count_name-n.ensures.0 c.args.out.now (omega arith)

pub returns : goal.returns
returns c =
    let a = c.args in
    write1_told a.self (search rules) _ c.count_name-n.ensures.0 a.out.now _ _ _ _ (omega arith) c.make_head.ensures
    (search (rules, tab_self a.self.random 16 (search rules))) c.count_name-n.ensures.2 c.put_pieces.ensures
