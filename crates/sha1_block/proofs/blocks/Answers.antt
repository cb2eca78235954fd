-- `blocks` keeps its promise: a fold over the whole blocks.
use Rattle.std.proofs.Common.{◌≡◌, ◌/◌, ◌∙◌, List, ℕ, ap, arith, length, rules}
use Rattle.std.specs.Simd.{first_chunks}
use Rattle.std.proofs.lemmas.Grind.{common_steps}
use Rattle.std.proofs.lemmas.Iterator.{YieldsList-from_slice}
use Rattle.std.proofs.lemmas.Iterator.Consumers.{fold_from_yields_List}
use Rattle.sha1_block.specs.Block.{compress, sha1_hash}
use Rattle.sha1_block.proofs.Laws.{runs_fold}
use Rattle.sha1_block.proofs.blocks.Goals as goal

-- the chunks of what is the whole list are the list's
of_all : (l : List (List ℕ)) (m s : List ℕ) → l ≡ first_chunks 64 (length m / 64) m → m ≡ s → l ≡ first_chunks 64 (length s / 64) s
of_all l m s e f = e ∙ ap (λ (k : List ℕ). first_chunks 64 (length k / 64) k) f

pub returns : goal.returns
unfolding sha1_hash
returns c =
    let s = c.args.s.now in
    fold_from_yields_List _ compress c.args.h c.fold.result c.fold.ensures.ran
    (YieldsList-from_slice _ (c.iter.ensures.rest ∙ of_all _ _ s c.as_chunks.ensures.front (grind (arith, common_steps))))
    (λ a x b q k. search rules)
    ∙ runs_fold _ c.args.h s
