-- `put_hex` keeps its promise: after i turns the first i bytes stand in hex.
use mathlib.Core.Path.{◌≡◌}
use lib.ListN.{take}
use Rattle.octets.specs.Place.{pasted}
use Rattle.text.specs.Digits.{hex}
use Rattle.text.proofs.write.put_hex.Given as goal

abbrev pub invariant-loop-i : goal.invariant-loop-i
invariant-loop-i l = l.out ≡ pasted l.initial.out l.at (hex (take l.i l.s))
