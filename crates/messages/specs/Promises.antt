-- What writers and readers promise: the whole answer, and every byte of the lent output (docs/RULES.md, 1.3, 2.5 and 7.8).
use Rattle.std.specs.Prelude.{ℕ, List, Result, ◌≡◌, leb, length}
use Rattle.refusal.specs.Order.{Res, accept, need, and_then}
use Rattle.refusal.specs.Answer.{told_as}
use Rattle.refusal.specs.declared.Refusal.{Refusal}
use Rattle.octets.specs.Place.{placed}
use Rattle.messages.specs.Name.{stored}
use Rattle.messages.specs.Answers.{told_written}
use Rattle.messages.specs.declared.rakp_1.Username.{Username}
use Rattle.messages.specs.declared.rakp_2.RakpMessage2.{RakpMessage2}

-- `bytes` were to be written: refusal 15 exactly when the output is shorter than they are; else the answer is how many they
-- are, and they stand at the output's start
pub record WritePromise (bytes out : List ℕ) (r : Result ℕ Refusal) (exit : List ℕ) : Type 0 where
  pub answer : told_written r ≡ need (leb (length bytes) (length out)) 15 0 (accept (length bytes))
  pub buffer : exit ≡ placed out 0 bytes

-- an accepted name is stored
pub record NamePromise (R : Res (List ℕ)) (r : Result Username Refusal) : Type 0 where
  pub answer : told_as (λ u. u) r ≡ and_then R (λ n. accept (stored n))

pub record ReadPromise2 (R : Res RakpMessage2) (r : Result RakpMessage2 Refusal) : Type 0 where
  pub answer : told_as (λ m. m) r ≡ R
