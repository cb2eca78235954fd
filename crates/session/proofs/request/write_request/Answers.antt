-- `write_request` keeps its promise: the request's 32 bytes and the record.
use mathlib.Core.Path.{refl, ◌∙◌, ap}
use Prim.Native.Nat.{ℕ}
use Rattle.session.specs.Record.{closed, begun_of, begun_with}
use Rattle.session.specs.Steps.{request_of, made_begin}
use Rattle.session.specs.declared.Begun.{Begun}
use Rattle.session.proofs.Makes.{is_written, step_written, request_fits}
use Rattle.session.proofs.request.write_request.Goals as goal

pub unwrap-requires : goal.unwrap-requires
unwrap-requires c =
    is_written _ c.args.out.now _ _ c.write_data.ensures (request_fits _ _ c.requires.0)

pub returns : goal.returns
unfolding request_of begun_of made_begin
returns c =
    let a = c.args in
    let b : ℕ → Begun = λ r. record { console = a.asked.console; role = r; username = a.username } in
    step_written (request_of a.asked) a.out.now _ _ c.write_data.ensures (request_fits _ _ c.requires.0) _ (made_begin a.asked a.username) closed _ c.unwrap.ensures refl
    (c.start_record.ensures ∙ ap (λ r. begun_with (b r)) c.make_role.ensures)
