-- The promises of the calls, from what the frame rules say of an answer's numbers and of the buffer.
use Prim.Native.Nat.{ℕ}
use mathlib.Core.List.{List}
use mathlib.Core.Path.{◌≡◌}
use Rattle.refusal.specs.Order.{Res}
use Rattle.framing.specs.Packet.{Message}
use Rattle.framing.specs.Told.{shown}
use Rattle.reader.specs.Answers.{read_told}
use Rattle.reader.specs.declared.Read.{Read}
use Rattle.frame.specs.Answers.{ReadPromise}

pub reads : (R : Res Message) (n : ℕ) (left : List ℕ) (r : Read) (exit : List ℕ)
    → (read_told r.answer ≡ shown R) × (r.blocks ≡ n) × (exit ≡ left) → ReadPromise R n left r exit
reads R n left r exit e = record { tells = record { answer = e.0; count = e.1 }; buffer = e.2 }
