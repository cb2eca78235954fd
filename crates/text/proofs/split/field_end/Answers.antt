-- `field_end` keeps its promise: the first separator ends the field, or the line's end does.
use Rattle.std.proofs.Common.{rules, tests, ◌≡◌, ◌∙◌, ap, ◌+◌, length, drop, take, ℕ, ◌-◌, nat_eq, List}
use Rattle.std.specs.List.{position}
use Rattle.std.proofs.lemmas.Iterator.Search.{position_from_yields_List}
use Rattle.std.proofs.lemmas.Iterator.{YieldsList-from_slice}
use Rattle.text.specs.Fields.{upto}
use Rattle.text.proofs.Cuts.{ends_at, behind}
use Rattle.text.proofs.split.field_end.Goals as goal

pub returns : goal.returns
returns c =
    let r : List ℕ = take (length c.args.line.now - c.min.result) (drop c.min.result c.args.line.now) in
    let e : c.position.result ≡ position (λ (x : ℕ). nat_eq x c.args.separator) r =
    position_from_yields_List (λ (x : ℕ). nat_eq x c.args.separator) _ _ c.position.result c.position.ensures.ran (YieldsList-from_slice r c.iter.ensures.rest) (λ x b q k. search (rules, tests)) in
    let u : c.unwrap_or.result ≡ length (upto c.args.separator r) = rw e at c.unwrap_or.ensures ∙ ends_at c.args.separator r in
    ap (λ (n : ℕ). c.args.from + n) (u ∙ ap (λ (l : List ℕ). length (upto c.args.separator l)) (behind c.args.line.now c.args.from c.min.result c.min.ensures))
