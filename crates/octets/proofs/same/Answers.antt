use Rattle.std.proofs.Common.{sym, ap, ◌∙◌, rules, take}
use Rattle.std.proofs.lemmas.List.{length_push}
use Rattle.std.proofs.lemmas.Slice.Zip.{zip_turn}
use Rattle.octets.specs.Equal.{same}
use Rattle.octets.proofs.Equal.{same_turn, same_lengths}
use Rattle.octets.proofs.same.Goals as goal

pub returns-then-a-b : goal.returns-then-a-b
returns-then-a-b c = let a = c.args in sym (same_lengths a.a.now a.b.now c.if-a-b.true)

pub loop-x-preserved : goal.loop-x-preserved
loop-x-preserved c =
    let l = c.loop-x in
    let a = c.args in
    let n = c.in-Some in
    let t = zip_turn a.a.now a.b.now l.yielded _ l.x-iterator c.next.new.self _ (search rules) (search rules) l.yielded_by (n.x, n.y) n.is c.next.ensures.steps in
    same_turn a.a.now a.b.now l.d _ _ _ t.0 t.1 (t.2 0) (t.3 0) l.invariant
    ∙ ap (λ k. same (take k a.a.now) (take k a.b.now)) (sym (length_push l.yielded (n.x, n.y)))
