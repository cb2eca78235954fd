-- `close` keeps its promise: one block or two, by the bytes that wait.
use Rattle.std.proofs.Common.{◌≡◌, length, arith, rules}
use Rattle.sha1_block.specs.Block.{sha1_hash}
use Rattle.sha1_hmac.specs.View.{state_of}
use Rattle.running.proofs.Closes.{close_one, close_two}
use Rattle.sha1_hmac.proofs.Sha1.close.Goals as goal

pub returns-then-fill-lt56 : goal.returns-then-fill-lt56
returns-then-fill-lt56 c =
    let a = c.args in
    let g = c.well_formed.0 in
    let l : length a.self.buf ≡ 64 = search (rules, g) in
    close_one sha1_hash (state_of a.self) _ _ _ _ l (omega arith) c.fill_block-marked.ensures c.put_length-last.ensures
    c.blocks-then-fill-lt56.ensures c.bytes.ensures

pub returns : goal.returns
returns c =
    let a = c.args in
    let g = c.well_formed.0 in
    let l : length a.self.buf ≡ 64 = search (rules, g) in
    close_two sha1_hash (state_of a.self) _ _ _ _ _ l (omega arith) c.fill_block-marked.ensures c.put_length-last-2.ensures
    c.blocks-h.ensures c.blocks-2.ensures c.bytes-2.ensures
