-- The reader given a code, over any suite: what a caller who computed the code may take for the answer of every check.
use Prim.Native.Nat.{ℕ}
use mathlib.Core.Bool.{true}
use mathlib.Core.List.{List}
use mathlib.Core.Path.{◌≡◌, ◌∙◌, ap}
use Rattle.framing.specs.Suite.{Suite}
use Rattle.framing.specs.Read.{coverage, code_of, read_with, read_of, has_code, blocks_with, blocks_of}
use Rattle.framing.specs.Told.{shown}
use Rattle.framing.proofs.Coded.{right_read, right_blocks}
use Rattle.reader.specs.Answers.{Tells}
use Rattle.reader.specs.declared.Read.{Read}

module _ (S : Suite) (l : List ℕ) (r : Read) where
  -- given the right code and its count, where there is a code to compare, the answer is that of every check
  pub read_given : (code : List ℕ) (n : ℕ) → (has_code S l ≡ true → code ≡ code_of S l) → (has_code S l ≡ true → n ≡ S.blocks (coverage S l))
      → Tells (read_with S code l) (blocks_with S n l) r → Tells (read_of S l) (blocks_of S l) r
  read_given code n e f t = record {
    answer = t.answer ∙ ap shown (right_read S l code e);
    count = t.count ∙ right_blocks S l code n f;
  }
