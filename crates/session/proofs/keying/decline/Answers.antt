-- `decline` keeps its promise: eight bytes, and a closed record.
use mathlib.Core.Path.{refl}
use native.Mathlib.Omega.{arith}
use Rattle.session.specs.Steps.{three_of}
use Rattle.session.proofs.Makes.{is_written, declined, declined_length}
use Rattle.session.proofs.keying.decline.Goals as goal

pub unwrap-requires : goal.unwrap-requires
unwrap-requires c =
    let l = declined_length (three_of c.args.state) in
    is_written _ c.args.out.now _ _ c.decline.ensures (omega arith)

pub returns : goal.returns
returns c =
    let l = declined_length (three_of c.args.state) in
    let p = declined _ c.args.out.now _ _ c.decline.ensures (omega arith) _ c.args.state _ c.unwrap.ensures refl c.make_closed.ensures in
    record { answer = p.answer; next = p.next; len = omega (arith, p.len); buffer = p.buffer }
