-- `answer_message` keeps its promise: the comparison decides between the two.
use Rattle.session.specs.Record.{keyed}
use Rattle.session.specs.Steps.{code_two, sik_two, code_three, made_two, three_of, proved_two}
use native.Mathlib.Omega.{arith}
use lib.ListN.{length}
use mathlib.Core.Path.{refl, sym, ◌∙◌, ap, ap₂}
use Rattle.octets.specs.Equal.{same}
use Rattle.octets.proofs.Place.{to_end}
use Rattle.refusal.proofs.Order.{need_no, pass}
use Rattle.sha1_hmac.specs.Hash.{hmac_sha1}
use Rattle.keys.specs.Chosen.{key_of}
use Rattle.keys.specs.Codes.{code2, sik_of, code3}
use Rattle.messages.specs.Rakp.{message3}
use Rattle.session.proofs.Makes.{is_hashed, hashed_digest, key_short, is_written, step_written, three_length}
use Rattle.session.proofs.Stages.{promise_as}
use Rattle.session.proofs.keying.answer_message.Goals as goal

pub unwrap-known-requires : goal.unwrap-known-requires
unwrap-known-requires c = is_hashed _ _ _ _ (omega arith) c.message_2_code.ensures

pub returns-then-not-same : goal.returns-then-not-same
unfolding proved_two code_two
returns-then-not-same c =
    let a = c.args in
    let s = a.state in
    let d = hashed_digest _ _ _ _ c.requires.1 c.message_2_code.ensures _ c.unwrap-known.ensures
    ∙ ap (code2 hmac_sha1 a.password.now s.begun.console s.system s.rm a.f.random a.f.guid) c.name_user-user.ensures in
    let e = c.same.ensures ∙ ap₂ same (to_end (length a.message.now) a.f.code.at a.message.now (omega arith)) d in
    promise_as _ _ s a.out.now _ _ (need_no _ _ _ _ (sym e ∙ c.if-not-same.true)) c.decline.ensures

pub unwrap-sik-requires : goal.unwrap-sik-requires
unwrap-sik-requires c =
    is_hashed _ _ _ _ (key_short c.args.kg.now c.args.password.now c.requires.0 c.requires.1) c.sik.ensures

pub unwrap-code-requires : goal.unwrap-code-requires
unwrap-code-requires c = is_hashed _ _ _ _ (omega arith) c.message_3_code.ensures

pub unwrap-requires : goal.unwrap-requires
unwrap-requires c =
    let l = three_length (three_of c.args.state) c.unwrap-code.result.digest (omega arith) in
    is_written _ c.args.out.now _ _ c.write.ensures (omega arith)

pub returns : goal.returns
unfolding proved_two made_two code_two sik_two code_three
returns c =
    let a = c.args in
    let s = a.state in
    let p = c.requires in
    let n = c.name_user-user.ensures in
    let d = hashed_digest _ _ _ _ p.1 c.message_2_code.ensures _ c.unwrap-known.ensures
    ∙ ap (code2 hmac_sha1 a.password.now s.begun.console s.system s.rm a.f.random a.f.guid) n in
    let e = c.same.ensures ∙ ap₂ same (to_end (length a.message.now) a.f.code.at a.message.now (omega arith)) d in
    let x = hashed_digest _ _ _ _ (key_short a.kg.now a.password.now p.0 p.1) c.sik.ensures _ c.unwrap-sik.ensures
    ∙ ap (sik_of hmac_sha1 (key_of a.kg.now a.password.now) s.rm a.f.random) n in
    let y = hashed_digest _ _ _ _ p.1 c.message_3_code.ensures _ c.unwrap-code.ensures
    ∙ ap (code3 hmac_sha1 a.password.now a.f.random s.begun.console) n in
    let l = three_length (three_of s) c.unwrap-code.result.digest (omega arith) in
    promise_as _ _ s a.out.now _ _ (pass _ _ _ _ (sym e ∙ c.if-not-same.false) refl)
    (step_written _ a.out.now _ _ c.write.ensures (omega arith) _ (made_two s a.kg.now a.password.now a.f) s _ c.unwrap.ensures
    (ap (message3 (three_of s)) y) (c.add_keys.ensures ∙ ap (keyed s a.f.guid) x))
