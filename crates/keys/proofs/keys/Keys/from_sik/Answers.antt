-- `from_sik` keeps its promise: each key is the code that one call makes.
use Rattle.std.proofs.Common.{◌≡◌, ◌∙◌, length, replicate, arith, rules}
use Rattle.sha1_block.specs.Block.{sha1_hash}
use Rattle.sha1_block.proofs.Laws.{sha1_sized}
use Rattle.sha1_hmac.specs.View.{hashed_of}
use Rattle.keys.specs.Keys.{keys_of}
use Rattle.keys.proofs.Running.{key_is}
use Rattle.keys.proofs.Told.{told_ok, told_value}
use Rattle.keys.proofs.keys.Keys.from_sik.Goals as goal

pub unwrap-first-requires : goal.unwrap-first-requires
unwrap-first-requires c =
    let n : length c.args.sik ≡ 20 = search rules in
    told_ok hashed_of _ (key_is sha1_hash sha1_sized c.args.sik (replicate 20 1) (omega arith) (omega arith) c.hmac.ensures).2

pub unwrap-second-requires : goal.unwrap-second-requires
unwrap-second-requires c =
    let n : length c.args.sik ≡ 20 = search rules in
    told_ok hashed_of _ (key_is sha1_hash sha1_sized c.args.sik (replicate 20 2) (omega arith) (omega arith) c.hmac-2.ensures).2

pub returns : goal.returns
unfolding keys_of
returns c =
    let s = c.args.sik in
    let n : length s ≡ 20 = search rules in
    let p = key_is sha1_hash sha1_sized s (replicate 20 1) (omega arith) (omega arith) c.hmac.ensures in
    let q = key_is sha1_hash sha1_sized s (replicate 20 2) (omega arith) (omega arith) c.hmac-2.ensures in
    let e = told_value hashed_of c.unwrap-first.ensures p.2 in
    let f = told_value hashed_of c.unwrap-second.ensures q.2 in
    let d = (λ i. (e i).0) ∙ p.3 in
    let g = (λ i. (f i).0) ∙ q.3 in
    λ i. record { sik = s; k1 = d i; k2 = g i }
