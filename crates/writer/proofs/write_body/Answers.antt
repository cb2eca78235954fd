-- `write_body` keeps its promise: without AES the payload is put at its place.
use Prim.Native.Nat.{◌+◌, ◌≤◌}
use mathlib.Core.Bool.{Bool}
use mathlib.Core.Path.{sym, ◌∙◌, subst}
use lib.ListN.{length}
use Rattle.framing.specs.Write.{body_size}
use Rattle.framing.proofs.Writes.{body_bare}
use Rattle.suite.specs.Session.{suite_of}
use Rattle.writer.proofs.write_body.Goals as goal

pub returns-else-encrypts : goal.returns-else-encrypts
returns-else-encrypts c =
    let a = c.args in
    let fits : Bool → Type 0 = λ (b : Bool). 12 + body_size b (length a.m.payload.now) ≤ length a.out.now in
    let bare = sym c.encrypts.ensures ∙ c.if-encrypts.false in
    body_bare (suite_of a.s) _ _ _ _ _ bare (subst fits bare c.requires) c.put.ensures
