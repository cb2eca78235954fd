-- What the answers say (docs/RULES.md, 1.1, 1.2 and 7.3): a refusal by its number and value, an algorithm by its code, all else as it is.
use Rattle.std.specs.Prelude.{ℕ, Result}
use Rattle.refusal.specs.Order.{Res}
use Rattle.refusal.specs.Answer.{told_as}
use Rattle.refusal.specs.declared.Refusal.{Refusal}
use Rattle.messages.specs.Block.{Block, numbers}
use Rattle.messages.specs.OpenSession.{Response, response_numbers}
use Rattle.messages.specs.declared.open_session.AlgorithmPayload.{AlgorithmPayload}
use Rattle.messages.specs.declared.open_session.OpenSessionResponse.{OpenSessionResponse}
use Rattle.messages.specs.declared.rakp_4.RakpMessage4.{RakpMessage4}

abbrev pub told_written : Result ℕ Refusal → Res ℕ
told_written = told_as (λ n. n)

abbrev pub told_block : Result AlgorithmPayload Refusal → Res Block
told_block = told_as numbers

abbrev pub told_open : Result OpenSessionResponse Refusal → Res Response
told_open = told_as response_numbers

abbrev pub told4 : Result RakpMessage4 Refusal → Res RakpMessage4
told4 = told_as (λ m. m)
