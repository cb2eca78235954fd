use Prim.Native.Nat.{◌*◌, ◌/◌, ℕ}
use native.Mathlib.Omega.{arith}
use mathlib.Core.Path.{refl, sym, ◌∙◌, ap}
use mathlib.Core.List.{List}
use lib.ListN.{length}
use Rattle.octets.proofs.Filled.{filled-part}
use Rattle.aes.specs.Schedule.{keys_of}
use Rattle.cbc.specs.Cbc.{xor_block}
use Rattle.cbc.proofs.Run.{run_turn, run_end, opened, kept, opened-length, decrypt_run}
use Rattle.cbc.proofs.decrypt_blocks.Goals as goal

pub loop-i-preserved : goal.loop-i-preserved
loop-i-preserved c =
    let l = c.loop-i in
    let put = c.put in
    let xored = c.xor_block-p in
    let decrypt-block = c.decrypt_block in
    let block = c.cut-b in
    let a = c.args in
    let w : List ℕ = keys_of a.a in
    let h = xored.ensures ∙ ap (λ (y : List ℕ). xor_block y l.v) decrypt-block.ensures in
    let t = run_turn (opened w) kept l.i _ l.v l.s _ _ _ _ _ _ (omega arith) l.invariant.0 (opened-length w)
    l.invariant.1 (block.ensures ∙ filled-part 16 l.s (16 * l.i) (omega arith)) h refl put.ensures in
    t

pub returns : goal.returns
returns c =
    let a = c.args in
    let w : List ℕ = keys_of a.a in
    let l = c.loop-i in
    run_end (opened w) kept l.i (length a.s.now / 16) _ _ _ (omega arith) l.invariant.0 l.invariant.1 ∙ sym (decrypt_run w _ _ _)
