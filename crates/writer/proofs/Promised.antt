-- The promises of the calls, from what the frame rules say of an answer's numbers and of the output.
use mathlib.Core.List.{List}
use mathlib.Core.Path.{◌≡◌}
use Prim.Native.Nat.{ℕ}
use Rattle.std.specs.Prelude.{Result}
use Rattle.refusal.specs.Order.{Res}
use Rattle.refusal.specs.declared.Refusal.{Refusal}
use Rattle.framing.specs.Told.{counted}
use Rattle.framing.specs.Write.{wrote_by}
use Rattle.writer.specs.Answers.{written_told, WritePromise}

pub writes : (R : Res (List ℕ)) (d : List ℕ) (w : Result ℕ Refusal) (exit : List ℕ)
    → (written_told w ≡ counted R) × (exit ≡ wrote_by R d) → WritePromise R d w exit
writes R d w exit e = record { answer = e.0; buffer = e.1 }
