-- `make_code` keeps its promise: the key is short, so the message alone decides, and the count is the formula for a short key.
use Prim.Native.Nat.{ℕ}
use native.Mathlib.Omega.{arith}
use mathlib.Core.Bool.{Bool, cond, ◌&&◌}
use mathlib.Core.List.{List}
use mathlib.Core.Path.{◌≡◌, sym, ◌∙◌, ap}
use lib.Dec.{leb}
use lib.ListN.{length, replicate}
use borrow.Author.Rules.{rules}
use borrow.Author.Tests.{le-leb}
use Rattle.running.specs.Promise.{limit}
use Rattle.running.proofs.Promised.{gives_code, refuses}
use Rattle.sha1_hmac.specs.Hash.{hmac_sha1}
use Rattle.sha1_hmac.proofs.Laws.{mac_count_short}
use Rattle.suite.specs.Code.{mac_blocks, longest_code}
use Rattle.suite.proofs.make_code.Goals as goal

-- a key of twenty bytes is taken
decides : (k l : List ℕ) → length k ≡ 20 → (leb (length k) limit && leb (length l) limit) ≡ leb (length l) limit
decides k l n = ap (λ (b : Bool). b && leb (length l) limit) (le-leb (length k) limit (omega arith))

pub returns-in-Ok : goal.returns-in-Ok
returns-in-Ok c =
    let k = c.args.s.keys.k1 in
    let l = c.args.bytes.now in
    let n : length k ≡ 20 = search rules in
    let p = gives_code c.in-Ok.ensures in
    let e = sym (decides k l n) ∙ p.0 in
    record {
      code = p.1 ∙ sym (ap (λ (b : Bool). cond b (hmac_sha1 k l) (replicate longest_code 0)) e);
      blocks = p.2 ∙ mac_count_short k l (omega arith) ∙ sym (ap (λ (b : Bool). cond b (mac_blocks (length l)) 0) e);
    }

pub returns-in-Err : goal.returns-in-Err
returns-in-Err c =
    let k = c.args.s.keys.k1 in
    let l = c.args.bytes.now in
    let n : length k ≡ 20 = search rules in
    let e = sym (decides k l n) ∙ refuses c.in-Err.ensures in
    record {
      code = sym (ap (λ (b : Bool). cond b (hmac_sha1 k l) (replicate longest_code 0)) e);
      blocks = sym (ap (λ (b : Bool). cond b (mac_blocks (length l)) 0) e);
    }
