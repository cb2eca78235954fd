-- `hand_on` keeps its promise: whole blocks that are not none have sixteen bytes at least.
use Rattle.std.proofs.Common.{arith, ◌-◌, ◌+◌, ◌≤◌, ◌∙◌, length}
use Rattle.octets.proofs.Filled.{filled-part}
use Rattle.cbc.proofs.Halves.{handed_none, handed_part}
use Rattle.cipher_vectors.proofs.hand_on.Goals as goal

pub returns-then-c-eq0 : goal.returns-then-c-eq0
returns-then-c-eq0 c = handed_none _ _ (omega arith)

pub returns : goal.returns
returns c =
    let l = c.args.c.now in
    let h : 16 ≤ length l = omega arith in
    let g : length l - 16 + 16 ≤ length l = omega arith in
    c.cut.ensures ∙ filled-part 16 l (length l - 16) g ∙ handed_part c.args.iv l h
