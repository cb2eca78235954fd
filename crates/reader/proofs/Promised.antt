-- The promises of the calls, from what the frame rules say of an answer's numbers.
use Prim.Native.Nat.{ℕ}
use mathlib.Core.Path.{◌≡◌}
use Rattle.refusal.specs.Order.{Res}
use Rattle.framing.specs.Packet.{Message}
use Rattle.framing.specs.Told.{shown}
use Rattle.reader.specs.Answers.{read_told, Tells}
use Rattle.reader.specs.declared.Read.{Read}

pub tells : (R : Res Message) (n : ℕ) (r : Read) → (read_told r.answer ≡ shown R) × (r.blocks ≡ n) → Tells R n r
tells R n r e = record { answer = e.0; count = e.1 }
