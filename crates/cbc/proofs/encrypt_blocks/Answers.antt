use Prim.Native.Nat.{◌*◌, ◌/◌, ℕ}
use native.Mathlib.Omega.{arith}
use mathlib.Core.Path.{sym, ◌∙◌, ap}
use mathlib.Core.List.{List}
use lib.ListN.{length}
use Rattle.octets.proofs.Filled.{filled-part}
use Rattle.aes.specs.Cipher.{cipher}
use Rattle.aes.specs.Schedule.{keys_of}
use Rattle.cbc.proofs.Run.{run_turn, run_end, sealed, sealed_length, encrypt_run}
use Rattle.cbc.proofs.encrypt_blocks.Goals as goal

pub loop-i-preserved : goal.loop-i-preserved
loop-i-preserved c =
    let l = c.loop-i in
    let put = c.put in
    let encrypt-block = c.encrypt_block-v in
    let xored = c.xor_block in
    let block = c.cut-b in
    let a = c.args in
    let w : List ℕ = keys_of a.a in
    let h = encrypt-block.ensures ∙ ap (cipher w) xored.ensures in
    let t = run_turn (sealed w) (sealed w) l.i _ l.v l.s _ _ _ _ _ _ (omega arith) l.invariant.0 (sealed_length w)
    l.invariant.1 (block.ensures ∙ filled-part 16 l.s (16 * l.i) (omega arith)) h h put.ensures in
    t

pub returns : goal.returns
returns c =
    let a = c.args in
    let w : List ℕ = keys_of a.a in
    let l = c.loop-i in
    run_end (sealed w) (sealed w) l.i (length a.s.now / 16) _ _ _ (omega arith) l.invariant.0 l.invariant.1 ∙ sym (encrypt_run w _ _ _)
