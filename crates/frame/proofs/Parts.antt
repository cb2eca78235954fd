-- The reader's calls put together, over any suite: what a caller of the parts may take for the answer of the whole.
use Prim.Native.Nat.{ℕ}
use mathlib.Core.Bool.{true, false, cond}
use mathlib.Core.List.{List}
use mathlib.Core.Path.{◌≡◌, refl, ◌∙◌}
use Rattle.framing.specs.Suite.{Suite}
use Rattle.framing.specs.Read.{read_of, openable, opened, left_of, accepts, blocks_of}
use Rattle.framing.proofs.InPlace.{left_opened, left_found}
use Rattle.std.specs.Prelude.{Result, Ok, Err}
use Rattle.std.specs.Result.{is_ok}
use Rattle.refusal.specs.declared.Refusal.{Refusal}
use Rattle.reader.specs.Answers.{read_told, Tells}
use Rattle.reader.specs.declared.Accepted.{Accepted}
use Rattle.reader.specs.declared.Read.{Read}
use Rattle.frame.specs.Answers.{ReadPromise}

-- an answer that is no refusal is one that accepts
pub accepts_told : (a : Result Accepted Refusal) → accepts (read_told a) ≡ is_ok a
accepts_told (Ok a) = refl
accepts_told (Err r) = refl

-- every check, and then the opening of what was accepted: that is reading
module _ (S : Suite) (l : List ℕ) (r : Read) (t : Tells (read_of S l) (blocks_of S l) r) where
  pub read_opened : is_ok r.answer ≡ true → (x : List ℕ) → x ≡ cond (openable l) (opened S l) l
      → ReadPromise (read_of S l) (blocks_of S l) (left_of S l) r x
  read_opened h x e = record { tells = t; buffer = e ∙ left_opened S l _ t.answer (accepts_told r.answer ∙ h) }

  pub read_refused : is_ok r.answer ≡ false → ReadPromise (read_of S l) (blocks_of S l) (left_of S l) r l
  read_refused h = record { tells = t; buffer = left_found S l _ t.answer (accepts_told r.answer ∙ h) }
