-- `message_2_code` keeps its promise.
use Rattle.std.proofs.Common.{◌≡◌, ap, ◌∙◌}
use Rattle.octets.specs.Number.{le}
use Rattle.keys.proofs.Texts.{joined_2}
use Rattle.keys.proofs.state.message_2_code.Goals as goal

pub returns : goal.returns
returns c =
    let a = c.args in
    let e : c.le-sidm.result ≡ le 4 a.sidm = c.le-sidm.ensures ∙ ap (le 4) c.from.ensures in
    let f : c.le-sidc.result ≡ le 4 a.sidc = c.le-sidc.ensures ∙ ap (le 4) c.from-2.ensures in
    rw (joined_2 _ _ a.rm a.rc a.guid a.sidm a.sidc _ e f) at c.make_code.ensures
