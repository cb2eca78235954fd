-- What an answer tells of what was found (docs/RULES.md, 6.8 and 6.10): bytes are told by their number.
use Rattle.std.specs.Prelude.{ℕ, List, length}
use Rattle.refusal.specs.Order.{Res, accept, and_then}
use Rattle.framing.specs.Packet.{Message}

-- of bytes that were found, how many they are
unfoldable pub counted : Res (List ℕ) → Res ℕ
counted r = and_then r (λ x. accept (length x))

-- a message as the reader tells it: the payload by its length
pub record Shown : Type 0 where
  pub ty : ℕ
  pub id : ℕ
  pub seq : ℕ
  pub len : ℕ

unfoldable pub shown : Res Message → Res Shown
shown r = and_then r (λ M. accept (record { ty = M.ty; id = M.id; seq = M.seq; len = length M.payload }))
