-- `add_round_key` keeps its promise: each byte is the sum named.
use Rattle.std.proofs.Common.{◌+◌, ◌*◌, get_or, rules}
use Rattle.std.specs.Int.Bits.{bit_xor}
use Rattle.octets.proofs.Tab.{tab_made}
use Rattle.aes.specs.State.{add_round_key}
use Rattle.aes.proofs.add_round_key.Goals as goal

pub returns : goal.returns
unfolding add_round_key
returns c =
    let a = c.args in
    tab_made _ _ (λ i. bit_xor (get_or a.s i 0) (get_or a.w.now (16 * a.n + i) 0)) (λ i y q h. search rules) _ 16 c.from_fn.ensures.items
