-- `absorb` keeps its promise: the last return is two pieces, which are their joined bytes.
use Rattle.std.proofs.Common.{◌≡◌, ◌+◌, ◌-◌, ◌%◌, length, take, drop, arith, length-take, length-take-le, rules}
use Rattle.sha1_block.specs.Block.{sha1_hash}
use Rattle.sha1_hmac.specs.View.{state_of}
use Rattle.running.proofs.Takes.{absorb_law, complete_none_waits}
use Rattle.sha1_hmac.proofs.Sha1.absorb.Goals as goal

pub absorb_blocks-requires-2 : goal.absorb_blocks-requires-2
absorb_blocks-requires-2 c =
    let a = c.args in
    let n : length (take (64 - a.self.len % 64) a.s.now) ≡ 64 - a.self.len % 64 = length-take-le (64 - a.self.len % 64) a.s.now
    (omega arith) in
    let f : a.self.len % 64 + length (take (64 - a.self.len % 64) a.s.now) ≡ 64 = omega arith in
    let r = length-take (length a.s.now - (64 - a.self.len % 64)) (drop (64 - a.self.len % 64) a.s.now) in
    (complete_none_waits sha1_hash (state_of a.self) _ _ f c.complete_block.ensures, omega (arith, r))

pub returns : goal.returns
returns c =
    let a = c.args in
    let g = c.well_formed.0 in
    let l : length a.self.buf ≡ 64 = search (rules, g) in
    absorb_law sha1_hash (state_of a.self) _ _ a.s.now _ l c.complete_block.ensures c.absorb_blocks-2.ensures
