-- One read more: what it gave stands behind what stood there, and the reader gave both, one after the other.
use Rattle.std.proofs.Common.{◌≡◌, ℕ, ◌+◌, ◌-◌, ◌≤◌, List, ◌++◌, length, take, sym, ap, ap₂, ◌∙◌, subst, rules, drop_at, length-take-le, take_at}
use Rattle.std.specs.Io.KnownBytes.{Consumes}
use Rattle.std.proofs.KnownBytes.{Consumes-trans}
use borrow.Rule.Slice.PartMut.{put_mid, post_of}
use lib.Seq.{take-add, take-append-le}
use Rattle.report.proofs.feed.read_full.Goals as goal

one_more : (a k n : ℕ) (xs ys : List ℕ) → a ≤ length xs → n ≤ length ys → take a xs ++ take n ys ≡ take (a + n) (put_mid a k xs ys)
one_more a k n xs ys within fits =
    let rest = post_of a k xs in
    let long = length-take-le a xs within in
    sym (take-add a n (put_mid a k xs ys)
    ∙ ap₂ ◌++◌ (take_at (take a xs) (ys ++ rest) a long) (ap (take n) (drop_at (take a xs) (ys ++ rest) a long) ∙ take-append-le n ys rest fits))

pub loop-done-preserved : goal.loop-done-preserved
loop-done-preserved g c =
    let l = c.loop-done in
    let e = one_more l.done (length l.room - l.done) c.in_ok-n.n l.room c.read.new.buf l.invariant.0 c.in_ok-n.ensures.bound.0 in
    (search rules, subst (Consumes _ _) e (Consumes-trans _ _ _ _ _ l.invariant.1 c.in_ok-n.ensures.bytes.0))
