-- What the calls that open a packet promise (docs/RULES.md, 6.5 to 6.9).
use Rattle.std.specs.Prelude.{ℕ, List, ◌≡◌}
use Rattle.refusal.specs.Order.{Res}
use Rattle.framing.specs.Packet.{Message}
use Rattle.reader.specs.Answers.{Tells}
use Rattle.reader.specs.declared.Read.{Read}

-- what was found, the blocks told with it, and what the packet's buffer holds
pub record ReadPromise (R : Res Message) (blocks : ℕ) (left : List ℕ) (r : Read) (exit : List ℕ) : Type 0 where
  pub tells : Tells R blocks r
  pub buffer : exit ≡ left
