-- `strip_pad` keeps its promise: what the last blocks show holds of the whole plain text.
use Prim.Native.Nat.{◌+◌, ◌*◌, ◌/◌}
use native.Mathlib.Omega.{arith}
use mathlib.Core.Path.{sym, ◌∙◌, ap}
use Rattle.aes.specs.Key.{key_expansion}
use Rattle.reader.proofs.Peek.{peek_size, peek_last, peek_tail}
use Rattle.framing.proofs.Body.{unpad_10, unpad_11, unpad_done}
use Rattle.reader.proofs.body.strip_pad.Goals as goal

pub returns-then-n-p : goal.returns-then-n-p
returns-then-n-p c =
    let l = c.args.body.now in
    let e = c.new-w.ensures ∙ ap key_expansion c.aes_key.ensures in
    let h = c.requires in
    unpad_10 _ _ _ (peek_size _ _ l e h.0 h.1) (omega arith)
    (peek_last _ _ l e h.0 h.1 _ _ c.decrypt_block-last.ensures c.from-p.ensures) c.if-n-p.true

pub returns-then-not-check_pad : goal.returns-then-not-check_pad
returns-then-not-check_pad c =
    let l = c.args.body.now in
    let e = c.new-w.ensures ∙ ap key_expansion c.aes_key.ensures in
    let h = c.requires in
    let p = c.from-p.result in
    unpad_11 _ _ _ (peek_size _ _ l e h.0 h.1) (omega arith)
    (peek_last _ _ l e h.0 h.1 _ _ c.decrypt_block-last.ensures c.from-p.ensures) (omega (arith, c.if-n-p.false))
    (sym (c.if-not-check_pad.true) ∙ peek_tail _ _ l e h.0 h.1 _ _ p ((p / 16 + 1) * 16)
    (omega (arith, h.0, h.1, c.if-n-p.false)) (omega arith)
    c.decrypt_tail-tail.ensures c.check_pad.ensures)

pub returns : goal.returns
returns c =
    let l = c.args.body.now in
    let e = c.new-w.ensures ∙ ap key_expansion c.aes_key.ensures in
    let h = c.requires in
    let p = c.from-p.result in
    unpad_done _ _ _ (peek_size _ _ l e h.0 h.1) (omega arith)
    (peek_last _ _ l e h.0 h.1 _ _ c.decrypt_block-last.ensures c.from-p.ensures) (omega (arith, c.if-n-p.false))
    (sym (c.if-not-check_pad.false) ∙ peek_tail _ _ l e h.0 h.1 _ _ p ((p / 16 + 1) * 16)
    (omega (arith, h.0, h.1, c.if-n-p.false)) (omega arith)
    c.decrypt_tail-tail.ensures c.check_pad.ensures)
