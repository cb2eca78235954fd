-- `shift_rows` keeps its promise: byte i is the byte at 5 i, modulo 16.
use Rattle.std.proofs.Common.{◌*◌, ◌%◌, get_or, rules}
use Rattle.octets.proofs.Tab.{tab_made}
use Rattle.aes.specs.State.{at, shift_rows}
use Rattle.aes.proofs.shift_rows.Goals as goal

pub returns : goal.returns
unfolding shift_rows at
returns c =
    let a = c.args in
    tab_made _ _ (λ i. get_or a.s (5 * i % 16) 0) (λ i y q h. search rules) _ 16 c.from_fn.ensures.items
