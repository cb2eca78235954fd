-- `inv_shift_rows` keeps its promise: byte i is the byte at 13 i, modulo 16.
use Rattle.std.proofs.Common.{◌*◌, ◌%◌, get_or, rules}
use Rattle.octets.proofs.Tab.{tab_made}
use Rattle.aes.specs.State.{at, unshift_rows}
use Rattle.aes.proofs.inv_shift_rows.Goals as goal

pub returns : goal.returns
unfolding unshift_rows at
returns c =
    let a = c.args in
    tab_made _ _ (λ i. get_or a.t (13 * i % 16) 0) (λ i y q h. search rules) _ 16 c.from_fn.ensures.items
