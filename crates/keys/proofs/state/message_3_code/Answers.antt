-- `message_3_code` keeps its promise.
use Rattle.std.proofs.Common.{◌≡◌, ap, ◌∙◌}
use Rattle.octets.specs.Number.{le}
use Rattle.keys.proofs.Texts.{joined_3}
use Rattle.keys.proofs.state.message_3_code.Goals as goal

pub returns : goal.returns
returns c =
    let a = c.args in
    let e : c.le-sidm.result ≡ le 4 a.sidm = c.le-sidm.ensures ∙ ap (le 4) c.from.ensures in
    rw (joined_3 a.rc _ a.sidm _ e) at c.make_code.ensures
