-- `hmac` keeps its promise: key and message at once are HMAC of them.
use Rattle.std.proofs.Common.{refl}
use borrow.Author.Tests.{lt-leb}
use Rattle.sha1_block.specs.Block.{sha1_hash}
use Rattle.sha1_block.proofs.Laws.{sha1_sized}
use Rattle.running.proofs.Coded.{mac_one}
use Rattle.running.proofs.Promised.{say_no, first_no, second_no}
use Rattle.sha1_hmac.proofs.mac.hmac.Goals as goal
use Rattle.sha1_hmac.proofs.mac.hmac.Goals.{then-key-gt-LIMIT-via-then-key-gt-LIMIT, then-key-gt-LIMIT-via-else-key-gt-LIMIT+then-s-gt-LIMIT}

pub returns-then-key-gt-LIMIT : goal.returns-then-key-gt-LIMIT
returns-then-key-gt-LIMIT c =
    elim c.then-key-gt-LIMIT.branch [
      | then-key-gt-LIMIT-via-then-key-gt-LIMIT w ↦ say_no (first_no _ _ (lt-leb _ _ w.if-key-gt-LIMIT.true)) refl
      | then-key-gt-LIMIT-via-else-key-gt-LIMIT+then-s-gt-LIMIT w ↦ say_no (second_no _ _ (lt-leb _ _ w.if-s-gt-LIMIT.true)) refl
    ]

pub returns : goal.returns
returns c =
    mac_one sha1_hash sha1_sized c.args.key.now c.args.s.now c.if-key-gt-LIMIT.false c.if-s-gt-LIMIT.false
    c.begin.ensures c.absorb.ensures c.close.ensures
