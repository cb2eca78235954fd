-- `put` keeps its promise: what is refused does not fit.
use Rattle.std.proofs.Common.{arith}
use Rattle.octets.proofs.Place.{put_mid-pasted, put_no, put_yes}
use Rattle.octets.proofs.put.Goals as goal
use Rattle.octets.proofs.put.Goals.{then-src-dst-via-then-src-dst, then-src-dst-via-else-src-dst+then-at-dst}

pub returns-then-src-dst : goal.returns-then-src-dst
returns-then-src-dst c =
    let a = c.args in
    put_no a.dst.now a.at a.src.now
    (elim c.then-src-dst.branch [ then-src-dst-via-then-src-dst w ↦ omega arith | then-src-dst-via-else-src-dst+then-at-dst w ↦ omega arith ])

pub returns : goal.returns
returns c =
    let a = c.args in
    put_yes a.dst.now a.at a.src.now _ (omega arith)
    (put_mid-pasted a.dst.now a.at _ a.src.now _ (omega arith) c.copy_from_slice.ensures.after)
