-- `has_code_bit` keeps its promise: the bit is 0 or 1, and 64 times that is what the mask leaves.
use Prim.Native.Nat.{ℕ, zero, suc, ◌*◌, ◌/◌, ◌%◌, ◌<◌}
use native.Mathlib.Omega.{arith}
use mathlib.Core.Bool.{not}
use mathlib.Core.Path.{◌≡◌, refl, ap, ◌∙◌}
use Rattle.std.specs.Prelude.{nat_eq}
use Rattle.std.proofs.lemmas.Nat.Bits.{and_pow}
use Rattle.framing.specs.Packet.{bit}
use Rattle.reader.proofs.has_code_bit.Goals as goal

bit_left : (q : ℕ) → q < 2 → bit (not (nat_eq (q * 64) 0)) ≡ q
bit_left zero h = refl
bit_left (suc zero) h = refl
bit_left (suc (suc q)) h = absurd (omega arith)

pub returns : goal.returns
returns c =
    let n = c.args.flags in
    ap (λ (k : ℕ). bit (not (nat_eq k 0))) (and_pow n 6) ∙ bit_left (n / 64 % 2) (omega arith)
