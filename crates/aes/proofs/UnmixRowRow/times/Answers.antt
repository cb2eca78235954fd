-- `UnmixRow::times` keeps its promise: three doublings make the inverse matrix's row.
use Prim.Native.Nat.{ℕ}
use mathlib.Core.Path.{◌∙◌, ap}
use lib.Bits.{bit_xor}
use Rattle.sbox.specs.Field.{xtime}
use Rattle.aes.proofs.Quad.{quad}
use Rattle.aes.proofs.Mix.{unmix_one}
use Rattle.aes.proofs.UnmixRowRow.times.Goals as goal

pub returns : goal.returns
unfolding quad
returns c =
    let s = c.args in
    ap (λ (x : ℕ). bit_xor x (bit_xor s.b (bit_xor s.c s.d)))
    (c.xtime.ensures
    ∙ ap (λ (x : ℕ). xtime (bit_xor x (bit_xor s.a s.b)))
    (c.xtime-f.ensures ∙ ap (λ (x : ℕ). xtime (bit_xor x (bit_xor s.a s.c))) c.xtime-e.ensures))
    ∙ unmix_one s.a s.b s.c s.d
