-- What reading once promises (docs/RULES.md, 10.11 to 10.13).
use Rattle.std.specs.Prelude.{ℕ, List, ◌≡◌}
use Rattle.refusal.specs.Order.{Res}
use Rattle.framing.specs.Packet.{Message}
use Rattle.framing.specs.Read.{left_by}
use Rattle.reader.specs.Answers.{read_told}
use Rattle.reader.specs.declared.Read.{Read}
use Rattle.frame.specs.Answers.{ReadPromise}
use Rattle.arrivals.specs.declared.Arrivals.{Arrivals}
use Rattle.once.specs.Guard.{guard, record_after}
use Rattle.once.specs.declared.ReadOnce.{ReadOnce}

-- deciding by the number, where the checks answered r: the answer, the blocks, which stay, and the record
pub record NumberPromise (a : Arrivals) (r : Read) (o : ReadOnce) : Type 0 where
  pub answer : read_told o.read.answer ≡ guard (λ x. x.seq) a (read_told r.answer)
  pub count : o.read.blocks ≡ r.blocks
  pub record_left : o.arrivals ≡ record_after (λ x. x.seq) a (read_told r.answer)

-- a packet or datagram in which reading finds R, tells so many blocks and leaves `left`: what is told, what is left of what was lent, and the record
pub record OncePromise (a : Arrivals) (R : Res Message) (blocks : ℕ) (left lent : List ℕ) (r : ReadOnce) (exit : List ℕ) : Type 0 where
  pub read : ReadPromise (guard (λ M. M.seq) a R) blocks (left_by (guard (λ M. M.seq) a R) lent left) r.read exit
  pub record_left : r.arrivals ≡ record_after (λ M. M.seq) a R
