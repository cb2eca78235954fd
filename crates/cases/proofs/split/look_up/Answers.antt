-- `look_up` keeps its promise: the word's place among the parts, or as many as they are.
use Rattle.std.proofs.Common.{rules, tests, arith, ◌≡◌, ◌∙◌, ℕ, length}
use Rattle.std.proofs.lemmas.Iterator.Search.{position_from_yields_List}
use Rattle.std.proofs.lemmas.Iterator.Splits.{YieldsList-from_slice_split}
use Rattle.std.specs.Prelude.{Option, Some, None}
use Rattle.std.specs.Option.{unwrap_or, MatchOption}
use lib.Dec.{eqb}
use lib.Pointwise.{pointwise}
use Rattle.text.specs.Fields.{cut}
use Rattle.cases.proofs.Walk.{word_place}
use Rattle.cases.proofs.split.look_up.Goals as goal

-- what is found, or else counted, is what an answer by `unwrap_or` is
or_counted : (r : Option ℕ) (x n p : ℕ) (Q : Type 0) → MatchOption r Q (λ y. x ≡ y) → (Q → x ≡ n) → unwrap_or r n ≡ p → x ≡ p
or_counted None x n p Q m f e = f m ∙ e
or_counted (Some y) x n p Q m f e = m ∙ e

pub returns : goal.returns
returns c =
    let w = c.args.words.now in
    let s = c.args.s.now in
    let found =
    position_from_yields_List (λ v. pointwise eqb v s) _ _ c.position.result c.position.ensures.ran
    (YieldsList-from_slice_split _ (λ x. eqb x 0x20) w c.split.ensures.rest c.split.ensures.done c.split.ensures.closure
    (λ x b q k. search (rules, tests)))
    (λ x b q k. search (rules, tests)) in
    let e =
    or_counted c.position.result _ (length (cut 0x20 w)) _ _ c.unwrap_or_else.ensures (λ q. search (rules, tests))
    (word_place s w c.position.result found) in
    omega (arith, e)
