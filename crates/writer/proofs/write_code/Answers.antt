-- `write_code` keeps its promise: the code covers what was written so far.
use Prim.Native.Nat.{ℕ, ◌+◌}
use native.Mathlib.Omega.{arith}
use mathlib.Core.Path.{◌≡◌, sym, ◌∙◌, ap, subst}
use lib.ListN.{length, take}
use lib.Seq.{length-take-le}
use Rattle.octets.specs.Promise.{PutPromise}
use Rattle.framing.proofs.Writes.{code_written}
use Rattle.suite.specs.Session.{suite_of}
use Rattle.suite.specs.Code.{longest_code}
use Rattle.suite.proofs.Suites.{code_short}
use Rattle.suite.proofs.Coded.{code_right}
use borrow.Author.Rules.{rules}
use Rattle.writer.proofs.write_code.Goals as goal

pub slice_bounds-make_code-end-2 : goal.slice_bounds-make_code-end-2
slice_bounds-make_code-end-2 c =
    sym (length-take-le _ c.put_trailer.new.out
    (omega (arith, c.put_trailer.auto.out, c.choose_q-q.ensures, c.requires.1)))

pub slice_bounds-put-end : goal.slice_bounds-put-end
slice_bounds-put-end c =
    let n : length c.make_code-c.result.code ≡ longest_code = search rules in
    sym (length-take-le _ _ (omega (arith, c.code_len-m.ensures, code_short c.args.s.integrity)))

pub returns : goal.returns
returns c =
    let a = c.args in
    let q = c.choose_q-q.ensures in
    let m = c.code_len-m.ensures in
    let size = length-take-le (a.k + c.choose_q-q.result + 1 + 1) c.put_trailer.new.out
    (omega (arith, c.put_trailer.auto.out, q, c.requires.1)) in
    let made = code_right _ _ _ c.make_code-c.ensures (omega (arith, size, q, c.requires.0)) in
    let put = c.put in
    let code = take c.code_len-m.result c.make_code-c.result.code in
    let n : a.k + c.choose_q-q.result + 1 + 1 ≡ a.k + c.choose_q-q.result + 2 = omega arith in
    let most : length c.make_code-c.result.code ≡ longest_code = search rules in
    code_written (suite_of a.s) a.out.now _ _ _ a.k _ _ _ q m (omega (arith, q, m, c.requires.1))
    (omega (arith, m, code_short a.s.integrity)) c.put_trailer.ensures
    (made ∙ ap (λ (j : ℕ). (suite_of a.s).mac (take j c.put_trailer.new.out)) n)
    (subst (λ (j : ℕ). PutPromise c.put_trailer.new.out j code put.result put.new.dst) n put.ensures)
