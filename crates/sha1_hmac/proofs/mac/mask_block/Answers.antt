-- `mask_block` keeps its promise: each byte is the sum named.
use Rattle.std.proofs.Common.{◌≡◌, ◌∙◌, length, get_or, rules}
use Rattle.std.specs.Int.Bits.{bit_xor}
use Rattle.octets.proofs.Tab.{tab_made}
use Rattle.sha1_hmac.proofs.Laws.{xored_tab}
use Rattle.sha1_hmac.proofs.mac.mask_block.Goals as goal

pub returns : goal.returns
returns c =
    let a = c.args in
    let n : length a.block ≡ 64 = search rules in
    tab_made _ _ (λ i. bit_xor (get_or a.block i 0) a.x) (λ i y q h. search rules) _ 64 c.from_fn.ensures.items
    ∙ (rw n at (xored_tab a.x a.block))
