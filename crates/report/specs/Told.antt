-- What the small program tells of a packet (docs/RULES.md, 8.1 and 8.2).
use Rattle.std.specs.Prelude.{ℕ, false, List, [], Result, ◌≡◌, leb, ltb, length}
use Rattle.refusal.specs.Answer.{told_as}
use Rattle.refusal.specs.Order.{Res, refuse, accept, need}
use Rattle.refusal.specs.declared.Refusal.{Refusal}
use Rattle.suite.specs.Types.{code_length}
use Rattle.framing.specs.Suite.{Suite}
use Rattle.framing.specs.Read.{read_of}
use Rattle.framing.specs.Told.{Shown, shown}
use Rattle.suite.specs.declared.Confidentiality as C
use Rattle.suite.specs.declared.Integrity as I
use Rattle.suite.specs.declared.SubState.{SubState}
use Rattle.text.specs.Line.{packet_line, refused_line}
use Rattle.text.specs.declared.line.Packet.{Packet}

-- the longest packet that is read
abbrev pub longest : ℕ
longest = 4096

-- a session with neither algorithm. It has no keys: no code is made, and what would be encrypted stays as it is. The length of
-- a code stands in the ceiling alone.
abbrev pub plain : Suite
plain = record { aes = false; auth = false; m = code_length I.TheVariants.None; mac = λ l. []; blocks = λ n. 0; enc = λ iv l. l; dec = λ iv l. l }

-- a session of the code with neither algorithm, whatever its keys are
pub record Bare (s : SubState) : Type 0 where
  pub confidentiality : s.confidentiality ≡ C.TheVariants.None
  pub integrity : s.integrity ≡ I.TheVariants.None

-- what is found: the length is looked at first, then the packet is read
unfoldable pub found : List ℕ → Res Shown
found l =
    need (ltb 0 (length l)) 1 0
    (need (leb (length l) longest) 15 0
    (shown (read_of plain l)))

-- its line: of a packet the type, the ids and the payload's length, of a refusal the number and not what it carries
abbrev pub line_for : Res Shown → List ℕ
line_for (refuse n v) = refused_line n
line_for (accept M) = packet_line M.ty M.id M.seq M.len

-- the line that tells of a packet
unfoldable pub told : List ℕ → List ℕ
told l = line_for (found l)

-- a packet by its numbers
abbrev pub packet_told : Packet → Shown
packet_told p = record { ty = p.kind; id = p.id; seq = p.seq; len = p.len }

-- what is told, by its numbers
abbrev pub numbers_told : Result Packet Refusal → Res Shown
numbers_told t = told_as packet_told t
