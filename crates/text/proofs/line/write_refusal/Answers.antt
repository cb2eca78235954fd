-- `write_refusal` keeps its promise: three pieces, each where the last one ended.
use Prim.Native.Nat.{◌≤◌}
use mathlib.Core.List.{[]}
use native.Mathlib.Omega.{arith}
use lib.ListN.{length}
use Rattle.text.specs.Digits.{decimal}
use Rattle.text.specs.Line.{refused_word, newline}
use Rattle.text.proofs.Tens.{decimal-length}
use Rattle.text.proofs.Lines.{wrote_none, wrote_more, wrote_all}
use Rattle.text.proofs.line.write_refusal.Goals as goal

pub returns : goal.returns
returns c =
    let add2 = c.add-c-2 in
    let decimal-fact = c.decimal-c in
    let add = c.add-c in
    let a = c.args in
    let d = a.out.now in
    let h : 64 ≤ length d = omega (arith, c.told-out) in
    let n = c.from.result in
    let s : length (decimal n) ≤ 3 = decimal-length 2 n (omega arith) in
    let w₁ = wrote_more 0 8 [] d refused_word _ _ _ _ (wrote_none d) add.ensures (omega arith) (omega arith) in
    let w₂ = wrote_more 8 3 _ d (decimal n) _ _ _ _ w₁ decimal-fact.ensures s (omega arith) in
    let w₃ = wrote_more 11 1 _ d newline _ _ _ _ w₂ add2.ensures (omega arith) (omega arith) in
    rw (c.from.ensures, c.number.ensures) at (wrote_all 12 _ d _ _ w₃ (omega arith))
