-- `MixRow::times` keeps its promise: one doubling makes the matrix's row.
use Prim.Native.Nat.{ℕ}
use mathlib.Core.Path.{◌∙◌, ap}
use lib.Bits.{bit_xor}
use Rattle.aes.proofs.Mix.{mix_one}
use Rattle.aes.proofs.MixRowRow.times.Goals as goal

pub returns : goal.returns
returns c =
    let s = c.args in
    ap (λ (x : ℕ). bit_xor (bit_xor x s.b) (bit_xor s.c s.d)) c.xtime.ensures ∙ mix_one s.a s.b s.c s.d
