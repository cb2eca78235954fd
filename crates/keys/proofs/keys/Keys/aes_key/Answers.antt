-- `aes_key` keeps its promise: K2 is long enough.
use Rattle.std.proofs.Common.{◌≡◌, ◌∙◌, List, ℕ, ap, length, arith, rules}
use Rattle.std.proofs.lemmas.Grind.{common_steps}
use Rattle.octets.specs.Place.{part, filled}
use Rattle.octets.proofs.Filled.{filled-part}
use Rattle.keys.proofs.keys.Keys.aes_key.Goals as goal

pub returns : goal.returns
returns c =
    let k = c.args.self.k2 in
    let n : length k ≡ 20 = search rules in
    c.cut.ensures ∙ ap (λ (l : List ℕ). filled 16 (part l 0 16)) (grind (arith, common_steps)) ∙ filled-part 16 k 0 (omega arith)
