-- `read_packet` keeps its promise: one law for each answer.
use Prim.Native.Nat.{◌<◌}
use native.Mathlib.Omega.{arith}
use mathlib.Core.Path.{◌≡◌, sym, ◌∙◌}
use lib.ListN.{length}
use borrow.Author.Tests.{eqb-true, eqb-false}
use Rattle.std.proofs.Common.{rules}
use Rattle.reader.specs.Answers.{read_told}
use Rattle.report.specs.Told.{longest, numbers_told}
use Rattle.report.proofs.Telling.{none, long, finds}
use Rattle.report.proofs.read_packet.Goals as goal

pub returns-then-is_empty : goal.returns-then-is_empty
returns-then-is_empty c =
    let l = c.args.packet.now in
    let h : length l ≡ 0 = eqb-true (length l) 0 (sym c.is_empty.ensures ∙ c.if-is_empty.true) in
    none l h

pub returns-then-packet-gt-LONGEST : goal.returns-then-packet-gt-LONGEST
returns-then-packet-gt-LONGEST c =
    let l = c.args.packet.now in
    let h : longest < length l = omega arith in
    long l h

pub returns : goal.returns
returns c =
    let l = c.args.packet.now in
    let r = c.read_checked-r in
    let h : (length l ≡ 0 → ⊥) = eqb-false (length l) 0 (sym c.is_empty.ensures ∙ c.if-is_empty.false) in
    let e : numbers_told c.map.result ≡ read_told r.result.answer = search rules in
    finds _ _ _ _ _ (omega arith) (omega arith) c.make_session.ensures r.ensures e
