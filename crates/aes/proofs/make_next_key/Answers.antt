-- `make_next_key` keeps its promise: what it computes from the substituted bytes is the next round key.
use mathlib.Core.Path.{◌∙◌, ap}
use mathlib.Core.List.{List}
use Prim.Native.Nat.{ℕ}
use Rattle.aes.proofs.Keys.{turned, turned_is}
use Rattle.aes.proofs.make_next_key.Goals as goal

pub returns : goal.returns
returns c =
    let k : List ℕ = c.args.k in
    let rc : ℕ = c.args.rc in
    ap (λ (t : List ℕ). turned k t rc) c.sub_bytes-t.ensures ∙ turned_is k rc
