-- `write_message_1` keeps its promise: message 1's bytes and the record.
use mathlib.Core.Path.{refl}
use native.Mathlib.Omega.{arith}
use Rattle.messages.specs.OpenSession.{response_numbers}
use Rattle.session.specs.Steps.{one_to, made_open}
use Rattle.session.proofs.Makes.{is_written, step_written, one_length}
use Rattle.session.proofs.response.write_message_1.Goals as goal

pub unwrap-requires : goal.unwrap-requires
unwrap-requires c =
    let a = c.args in
    let l = one_length (one_to a.r.system a.state a.rm) (omega arith) (omega arith) c.requires.1 in
    is_written _ a.out.now _ _ c.write.ensures (omega arith)

pub returns : goal.returns
unfolding made_open response_numbers
returns c =
    let a = c.args in
    let l = one_length (one_to a.r.system a.state a.rm) (omega arith) (omega arith) c.requires.1 in
    step_written _ a.out.now _ _ c.write.ensures (omega arith) _ (made_open a.state a.rm (response_numbers a.r)) a.state _ c.unwrap.ensures refl
    c.add_response.ensures
