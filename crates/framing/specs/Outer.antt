-- The outer call (docs/RULES.md, 6.5): a packet with the RMCP header before it, as it goes over the wire.
use Rattle.std.specs.Prelude.{ℕ, cond, List, [], ◌∷◌, ◌++◌, length, take, drop, leb}
use Rattle.refusal.specs.Order.{Res, accept, need, and_then}
use Rattle.octets.specs.Equal.{same}
use Rattle.framing.specs.Suite.{Suite}
use Rattle.framing.specs.Packet.{Message}
use Rattle.framing.specs.Read.{read_of, opened, left_by, accepts, blocks_of}
use Rattle.framing.specs.Write.{write_after}

-- the RMCP header of an IPMI packet
abbrev pub outer : List ℕ
outer = 0x06 ∷ 0x00 ∷ 0xFF ∷ 0x07 ∷ []

-- the test of it
unfoldable pub outer_of : List ℕ → Res (Unit {0})
outer_of d =
    need (leb 4 (length d)) 1 0
    (need (same (take 4 d) outer) 16 0
    (accept tt))

-- behind it the packet's own order
unfoldable pub read_datagram_of : Suite → List ℕ → Res Message
read_datagram_of S d = and_then (outer_of d) (λ _. read_of S (drop 4 d))

unfoldable pub left_datagram : Suite → List ℕ → List ℕ
left_datagram S d = left_by (read_datagram_of S d) d (take 4 d ++ opened S (drop 4 d))

unfoldable pub blocks_datagram : Suite → List ℕ → ℕ
blocks_datagram S d = cond (accepts (outer_of d)) (blocks_of S (drop 4 d)) 0

-- a packet alone, and one with the four bytes before it: room and length count four more
unfoldable pub write_of : Suite → Message → List ℕ → ℕ → Res (List ℕ)
write_of = write_after []

unfoldable pub write_datagram_of : Suite → Message → List ℕ → ℕ → Res (List ℕ)
write_datagram_of = write_after outer
