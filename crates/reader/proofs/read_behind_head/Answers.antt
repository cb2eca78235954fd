-- `read_behind_head` keeps its promise: the code computed is the one that the packet ought to end with.
use Prim.Native.Nat.{ℕ}
use native.Mathlib.Omega.{arith}
use mathlib.Core.List.{List}
use mathlib.Core.Path.{◌≡◌, refl, ap, sym, subst}
use lib.ListN.{take}
use Rattle.framing.specs.Read.{Computed}
use Rattle.framing.proofs.Sound.{head_inv}
use Rattle.framing.proofs.Coded.{told_computed}
use Rattle.suite.specs.Types.{code_length}
use Rattle.suite.specs.Session.{suite_of}
use Rattle.suite.proofs.Suites.{code_short}
use Rattle.reader.proofs.Promised.{tells}
use Rattle.reader.proofs.read_behind_head.Goals as goal

pub expect_code-c-requires : goal.expect_code-c-requires
expect_code-c-requires c =
    let a = c.args in
    omega (arith, (head_inv (suite_of a.s) a.packet.now _ c.requires).short, code_short a.s.integrity)

pub returns : goal.returns
returns c =
    let S = suite_of c.args.s in
    let l = c.args.packet.now in
    let x = c.expect_code-c.result in
    let m = c.code_len-m.result in
    let e : take (code_length c.args.s.integrity) x.code ≡ take m x.code
    = ap (λ (k : ℕ). take k x.code) (sym c.code_len-m.ensures) in
    tells _ _ _
    (told_computed S l (take m x.code) _ _ _ _ c.requires
    (subst (λ (y : List ℕ). Computed S l y x.blocks) e c.expect_code-c.ensures)
    c.read_rest.ensures refl)
