-- `xor_block` keeps its promise: each byte is the sum named.
use Rattle.std.proofs.Common.{get_or, rules}
use Rattle.std.specs.Int.Bits.{bit_xor}
use Rattle.octets.proofs.Tab.{tab_made}
use Rattle.cbc.specs.Cbc.{xor_block}
use Rattle.cbc.proofs.xor_block.Goals as goal

pub returns : goal.returns
unfolding xor_block
returns c =
    let s = c.args in
    tab_made _ _ (λ i. bit_xor (get_or s.a i 0) (get_or s.b i 0)) (λ i y q h. search rules) _ 16 c.from_fn.ensures.items
