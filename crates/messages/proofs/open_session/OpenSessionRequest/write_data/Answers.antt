-- `OpenSessionRequest::write_data` keeps its promise: its pieces are the request's.
use native.Mathlib.Omega.{arith}
use mathlib.Core.Path.{refl, ◌∙◌}
use Rattle.messages.specs.OpenSession.{open_request}
use Rattle.messages.proofs.Writing.{write_no, write_yes}
use Rattle.messages.proofs.open_session.OpenSessionRequest.write_data.Goals as goal

pub returns-then-out-lt-REQUEST_LEN : goal.returns-then-out-lt-REQUEST_LEN
unfolding open_request
returns-then-out-lt-REQUEST_LEN c = write_no (open_request c.args.self) c.args.out.now (omega arith)

pub returns : goal.returns
unfolding open_request
returns c =
    let h = c.make_head-head.ensures in
    let l = c.unwrap_or-level.ensures in
    write_yes (open_request c.args.self) c.args.out.now 32 _ (omega arith) refl
    (c.put_pieces.ensures ∙ rw (h, l, c.write.ensures, c.write-2.ensures, c.write-3.ensures))
