-- `write_packet` keeps its promise: nine pieces, each where the last one ended.
use Prim.Native.Nat.{◌≤◌}
use mathlib.Core.List.{[]}
use native.Mathlib.Omega.{arith}
use lib.Dec.{lit≤}
use lib.ListN.{length}
use Rattle.text.specs.Digits.{decimal, hex8}
use Rattle.text.specs.Line.{type_word, id_word, seq_word, payload_word, newline}
use Rattle.text.proofs.Tens.{decimal-length}
use Rattle.text.proofs.Writing.{length-hex8}
use Rattle.text.proofs.Lines.{wrote_none, wrote_more, wrote_all}
use Rattle.text.proofs.line.write_packet.Goals as goal

pub returns : goal.returns
returns c =
    let a = c.args in
    let add5 = c.add-c-5 in
    let decimal2 = c.decimal-c-2 in
    let add4 = c.add-c-4 in
    let hex82 = c.hex8-c-2 in
    let add3 = c.add-c-3 in
    let hex8-fact = c.hex8-c in
    let add2 = c.add-c-2 in
    let decimal-fact = c.decimal-c in
    let add = c.add-c in
    let p = a.p in
    let d = a.out.now in
    let h : 64 ≤ length d = omega (arith, c.told-out) in
    let n = c.from.result in
    let s : length (decimal n) ≤ 3 = decimal-length 2 n (omega arith) in
    let t : length (decimal p.len) ≤ 20 = decimal-length 19 p.len (omega arith) in
    let u : length (hex8 p.id) ≤ 8 = omega (arith, length-hex8 p.id) in
    let v : length (hex8 p.seq) ≤ 8 = omega (arith, length-hex8 p.seq) in
    let w₁ = wrote_more 0 5 [] d type_word _ _ _ _ (wrote_none d) add.ensures (lit≤ tt) (omega (arith, h)) in
    let w₂ = wrote_more 5 3 _ d (decimal n) _ _ _ _ w₁ decimal-fact.ensures s (omega (arith, h)) in
    let w₃ = wrote_more 8 4 _ d id_word _ _ _ _ w₂ add2.ensures (lit≤ tt) (omega (arith, h)) in
    let w₄ = wrote_more 12 8 _ d (hex8 p.id) _ _ _ _ w₃ hex8-fact.ensures u (omega (arith, h)) in
    let w₅ = wrote_more 20 5 _ d seq_word _ _ _ _ w₄ add3.ensures (lit≤ tt) (omega (arith, h)) in
    let w₆ = wrote_more 25 8 _ d (hex8 p.seq) _ _ _ _ w₅ hex82.ensures v (omega (arith, h)) in
    let w₇ = wrote_more 33 9 _ d payload_word _ _ _ _ w₆ add4.ensures (lit≤ tt) (omega (arith, h)) in
    let w₈ = wrote_more 42 20 _ d (decimal p.len) _ _ _ _ w₇ decimal2.ensures t (omega (arith, h)) in
    let w₉ = wrote_more 62 1 _ d newline _ _ _ _ w₈ add5.ensures (lit≤ tt) (omega (arith, h)) in
    rw c.from.ensures at (wrote_all 63 _ d _ _ w₉ (omega (arith, h)))
