-- `write_packet` keeps its promise: after each step the output begins with what was written so far.
use Prim.Native.Nat.{ℕ, ◌+◌, ◌≤◌}
use native.Mathlib.Omega.{arith}
use mathlib.Core.Path.{◌≡◌, sym, ◌∙◌, subst}
use lib.ListN.{length}
use Rattle.framing.specs.Write.{least_q, packet_size}
use Rattle.framing.proofs.Writes.{body_fits, packet_body, packet_code, packet_bare, packet_auth}
use Rattle.suite.specs.Types.{encrypts}
use Rattle.suite.specs.Session.{suite_of}
use Rattle.suite.proofs.Suites.{suite_lengths}
use borrow.Author.Rules.{rules}
use Rattle.writer.proofs.write_packet.Goals as goal

pub write_body-requires : goal.write_body-requires
write_body-requires c =
    let a = c.args in
    omega (arith, c.requires.1, packet_body (suite_of a.s) (length a.m.payload.now), c.put.auto.dst)

pub write_code-requires : goal.write_code-requires
write_code-requires c =
    let a = c.args in
    let S = suite_of a.s in
    let n = length a.m.payload.now in
    let b = c.measure_body-n.ensures in
    let out = c.write_body.new.out in
    let kept : length out ≡ length a.out.now = c.write_body.auto.out ∙ c.put.auto.dst in
    let fits : packet_size S n ≤ length out = subst (λ (k : ℕ). packet_size S n ≤ k) (sym kept) c.requires.1 in
    let whole = packet_code S n (sym c.carries_code.ensures ∙ c.if-carries_code.true) in (
      omega (arith, b, body_fits (encrypts a.s.confidentiality) n c.requires.0),
      subst (λ (k : ℕ). 12 + k + least_q (12 + k) + 2 + S.m ≤ length out) (sym b) (subst (λ (k : ℕ). k ≤ length out) (sym whole) fits),
    )

pub returns-then-carries_code : goal.returns-then-carries_code
returns-then-carries_code c =
    let a = c.args in
    let iv_size : length a.m.iv ≡ 16 = search rules in
    let S = suite_of a.s in
    packet_auth S (suite_lengths a.s) _ a.m.iv iv_size a.out.now _ _ _ _ _ c.measure_body-n.ensures
    c.make_header-h.ensures c.put.ensures
    (omega (arith, c.requires.1, packet_body S (length a.m.payload.now))) c.write_body.ensures _
    (sym c.carries_code.ensures ∙ c.if-carries_code.true) c.write_code.ensures

pub returns-else-carries_code : goal.returns-else-carries_code
returns-else-carries_code c =
    let a = c.args in
    let iv_size : length a.m.iv ≡ 16 = search rules in
    let S = suite_of a.s in
    packet_bare S (suite_lengths a.s) _ a.m.iv iv_size a.out.now _ _ _ _ _ c.measure_body-n.ensures
    c.make_header-h.ensures c.put.ensures
    (omega (arith, c.requires.1, packet_body S (length a.m.payload.now))) c.write_body.ensures
    (sym c.carries_code.ensures ∙ c.if-carries_code.false)
