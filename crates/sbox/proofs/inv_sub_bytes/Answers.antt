-- `inv_sub_bytes` keeps its promise: each byte is what `inv_sub_byte` ensures.
use Rattle.std.proofs.Common.{get_or, rules}
use Rattle.octets.proofs.Tab.{tab_of}
use Rattle.sbox.specs.Substitution.{unsub_byte, unsub_bytes}
use Rattle.sbox.proofs.inv_sub_bytes.Goals as goal

pub returns : goal.returns
unfolding unsub_bytes
returns c =
    let m = c.map.ensures.items in
    tab_of c.map.result 16 (λ i. unsub_byte (get_or c.args.s i 0)) m.long (λ i h. let a = (m.at i 0 0 h).2 in search rules)
