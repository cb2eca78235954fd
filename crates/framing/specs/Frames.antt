-- Which packets and datagrams carry a message (docs/RULES.md, 6.1 to 6.5), and what a caller gives to a writer: what the exactness of
-- reading and the way back from writing are said with.
use Rattle.std.specs.Prelude.{ℕ, ◌<◌, true, List, ◌++◌, ◌≡◌, length}
use Rattle.octets.specs.Bytes.{Bytes}
use Rattle.framing.specs.Known.{known}
use Rattle.framing.specs.Suite.{Suite}
use Rattle.framing.specs.Packet.{Message, Filling, Legal, build}
use Rattle.framing.specs.Outer.{outer}

-- l is a frame of the message M: some filling that the rules allow builds it
pub record FrameOf (S : Suite) (M : Message) (l : List ℕ) : Type 0 where
  pub filling : Filling
  pub legal : Legal S M filling
  pub bytes : build S M filling ≡ l

-- d is a datagram of the message M: a frame of it behind the four outer bytes
pub record DatagramOf (S : Suite) (M : Message) (d : List ℕ) : Type 0 where
  pub packet : List ℕ
  pub bytes : outer ++ packet ≡ d
  pub frame : FrameOf S M packet

-- `Of` holds of M and of no other message
abbrev pub Only : (Message → Type 0) → Message → Type 0
Only Of M = Of M × ((N : Message) → Of N → N ≡ M)

-- `Of` holds of no message
abbrev pub NoMessage : (Message → Type 0) → Type 0
NoMessage Of = ((M : Message) × Of M) → ⊥

-- what the caller of a writer gives: a known type, numbers of four bytes, bytes, and an IV of sixteen
pub record Given (M : Message) (iv : List ℕ) : Type 0 where
  pub ty_known : known M.ty ≡ true
  pub id_fits : M.id < 0x100000000
  pub seq_fits : M.seq < 0x100000000
  pub payload_bytes : Bytes M.payload
  pub iv_size : length iv ≡ 16
  pub iv_bytes : Bytes iv
