-- What a stage of the reader or of the writer tells (docs/RULES.md, 6.6 and 6.10).
use Rattle.std.specs.Prelude.{Result, ℕ}
use Rattle.refusal.specs.Order.{Res}
use Rattle.refusal.specs.Answer.{told_as}
use Rattle.refusal.specs.declared.Refusal.{Refusal}

-- a number of bytes, or a refusal
abbrev pub stage_told : Result ℕ Refusal → Res ℕ
stage_told = told_as (λ n. n)
