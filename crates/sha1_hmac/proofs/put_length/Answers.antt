-- `put_length` keeps its promise: eight bytes fit behind 56.
use Rattle.std.proofs.Common.{◌≡◌, ℕ, ◌*◌, length, ap, ◌∙◌, arith, rules}
use Rattle.octets.specs.Number.{be}
use Rattle.octets.specs.Place.{pasted}
use Rattle.octets.proofs.Place.{put_done, put_of}
use Rattle.sha1_hmac.proofs.put_length.Goals as goal

pub returns : goal.returns
returns c =
    let a = c.args in
    let l : length a.b ≡ 64 = search rules in
    let p = put_of _ 56 _ _ _ _ c.be.ensures c.put.ensures in
    put_done a.b 56 (be 8 (c.from.result * 8)) _ _ p (omega arith) ∙ ap (λ (n : ℕ). pasted a.b 56 (be 8 (n * 8))) c.from.ensures
