-- The order of refusals (docs/RULES.md, 1.4): a call tests one thing after another, and the first test that fails decides.
use Rattle.std.specs.Prelude.{ℕ, Bool, true, false}

-- what a call finds: a refusal, by its number and the value it carries (0 for none), or what it was asked for
pub data Res (A : Type 0) : Type 0 where
  refuse : ℕ → ℕ → Res A
  accept : A → Res A

-- the test b stands before r; where it fails, the refusal n with the value v is the answer
unfoldable pub need : {A : Type 0} → Bool → ℕ → ℕ → Res A → Res A
need true n v r = r
need false n v r = refuse n v

-- what comes after r, if r accepted, is given what r found
unfoldable pub and_then : {A B : Type 0} → Res A → (A → Res B) → Res B
and_then (refuse n v) f = refuse n v
and_then (accept a) f = f a

-- what is left of an answer where only its being accepted counts
abbrev pub done : {A : Type 0} → Res A → Res (Unit {0})
done (refuse n v) = refuse n v
done (accept a) = accept tt
