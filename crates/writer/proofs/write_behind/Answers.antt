-- `write_behind` keeps its promise: the bytes before, then the packet in the rest of the output.
use Prim.Native.Nat.{ℕ, ◌+◌, ◌-◌, ◌≤◌}
use native.Mathlib.Omega.{arith}
use mathlib.Core.Bool.{Bool}
use mathlib.Core.List.{List, ◌++◌, append_assoc, append-nil}
use mathlib.Core.Path.{◌≡◌, refl, sym, ◌∙◌, ap, ap₂}
use lib.ListN.{length, take, drop, length-append, length-drop, drop_of_length-le}
use lib.Seq.{drop-drop}
use Rattle.std.proofs.lemmas.Result.{err_from_is_err_and}
use Rattle.octets.specs.Place.{begun}
use Rattle.octets.specs.Promise.{PutPromise}
use Rattle.octets.proofs.Place.{put_done, begun_first, begun_take, begun_drop, to_end}
use Rattle.framing.proofs.Writes.{room_inv, write_no, write_yes}
use Rattle.suite.specs.Told.{stage_told}
use Rattle.suite.specs.Session.{suite_of}
use Rattle.suite.proofs.Suites.{suite_lengths}
use Rattle.writer.proofs.Promised.{writes}
use borrow.Author.Rules.{rules}
use Rattle.writer.proofs.write_behind.Goals as goal

-- P written behind b
written_behind : (b d d1 y P : List ℕ) (r : Bool) → length b ≤ length d → PutPromise d 0 b r d1
    → y ≡ begun P (take (length d1 - length b) (drop (length b) d1))
    → take (length b) d1 ++ (y ++ drop (length d1 - length b) (drop (length b) d1)) ≡ begun (b ++ P) d
unfolding begun
written_behind b d d1 y P r h p e =
    let n : ℕ = length b in
    let first : d1 ≡ begun b d = put_done d 0 b r d1 p (omega arith) ∙ begun_first b d in
    let front : take n d1 ≡ b = ap (take n) first ∙ begun_take b d n refl in
    let rest : drop n d1 ≡ drop n d = ap (drop n) first ∙ begun_drop b d n refl in
    let over : length (drop n d1) ≤ length d1 - n = omega (arith, length-drop n d1) in
    ap₂ (λ (x z : List ℕ). x ++ z) front
    (ap₂ (λ (x z : List ℕ). x ++ z) (e ∙ ap (begun P) (to_end (length d1) n d1 (omega arith) ∙ rest)) (drop_of_length-le (drop n d1) over)
    ∙ append-nil (begun P (drop n d))
    ∙ ap (λ (x : List ℕ). P ++ x) (drop-drop (length P) n d))
    ∙ sym (append_assoc b P (drop (n + length P) d)) ∙ ap (λ (k : ℕ). (b ++ P) ++ drop k d) (sym (length-append b P))

pub slice_bounds-write_packet-count : goal.slice_bounds-write_packet-count
slice_bounds-write_packet-count c =
    let a = c.args in
    let e = room_inv (suite_of a.s) (length a.before.now) (length a.m.payload.now) (length a.out.now) _
    (sym c.check_room.ensures ∙ ap stage_told c.in_ok-n.was) in
    omega (arith, e.1, c.put.auto.dst)

pub slice_bounds-write_packet-start : goal.slice_bounds-write_packet-start
slice_bounds-write_packet-start c = slice_bounds-write_packet-count c

pub write_packet-requires : goal.write_packet-requires
write_packet-requires c =
    let a = c.args in
    let n = length a.before.now in
    let e = room_inv (suite_of a.s) n (length a.m.payload.now) (length a.out.now) _
    (sym c.check_room.ensures ∙ ap stage_told c.in_ok-n.was) in
    let d = c.put.new.dst in
    (e.0, omega (arith, e.1, c.put.auto.dst, ap length (to_end (length d) n d (omega arith)), length-drop n d))

pub returns-in_err-n : goal.returns-in_err-n
returns-in_err-n c =
    let e = err_from_is_err_and c.from_residual.result c.from_residual.ensures.1 in
    rw (e.1, e.2) (writes _ _ _ _ (write_no _ _ _ c.args.before.now _ _ c.check_room.ensures _ _ (ap stage_told c.in_err-n.was)))

pub returns : goal.returns
returns c =
    let a = c.args in
    let iv_size : length a.m.iv ≡ 16 = search rules in
    let e = room_inv (suite_of a.s) (length a.before.now) (length a.m.payload.now) (length a.out.now) _
    (sym c.check_room.ensures ∙ ap stage_told c.in_ok-n.was) in
    writes _ _ _ _
    (write_yes (suite_of a.s) _ a.m.iv a.before.now _ _ c.check_room.ensures (suite_lengths a.s) iv_size _ _
    (ap stage_told c.in_ok-n.was)
    (written_behind a.before.now a.out.now _ _ _ _ (omega (arith, e.1)) c.put.ensures c.write_packet.ensures))
