-- Writing a packet (docs/RULES.md, 6.3, 6.4 and 6.10): what our writer takes where the rules leave a choice, the sizes,
-- and the order of its refusals.
use Rattle.std.specs.Prelude.{ℕ, ◌+◌, ◌-◌, ◌%◌, Bool, true, false, cond, List, [], ◌∷◌, ◌++◌, length, replicate, leb}
use Rattle.refusal.specs.Order.{Res, refuse, accept, need, and_then}
use Rattle.octets.specs.Place.{begun}
use Rattle.framing.specs.Suite.{Suite}
use Rattle.framing.specs.Packet.{Message, Filling, plain_of, build}

-- the least count of pad bytes that makes n bytes, the pad and the byte for its count whole blocks
abbrev pub least_p : ℕ → ℕ
least_p n = (16 - (n + 1) % 16) % 16

-- the least count of pad bytes that makes n bytes, the pad and the two bytes after it a multiple of 4
abbrev pub least_q : ℕ → ℕ
least_q n = (4 - (n + 2) % 4) % 4

-- the size of the body that carries a payload of n bytes
abbrev pub body_size : Bool → ℕ → ℕ
body_size true n = 16 + n + least_p n + 1
body_size false n = n

-- the size of the trailer behind n bytes, with a code of m bytes
abbrev pub trailer_size : Bool → ℕ → ℕ → ℕ
trailer_size true m n = least_q n + 2 + m
trailer_size false m n = 0

-- the size of the packet that carries a payload of n bytes
abbrev pub packet_size : Suite → ℕ → ℕ
packet_size S n = 12 + body_size S.aes n + trailer_size S.auth S.m (12 + body_size S.aes n)

-- our choice: the least p, and FF bytes, as few as serve
abbrev pub our_filling : Suite → List ℕ → List ℕ → Filling
our_filling S iv payload = record { iv = iv; p = least_p (length payload); pads = replicate (least_q (12 + body_size S.aes (length payload))) 0xFF }

-- the body that this makes
unfoldable pub our_body : Suite → List ℕ → List ℕ → List ℕ
our_body S payload iv = cond S.aes (iv ++ S.enc iv (plain_of payload (least_p (length payload)))) payload

-- the bytes between a frame of k bytes and its code
abbrev pub our_pads : ℕ → List ℕ
our_pads k = replicate (least_q k) 0xFF ++ (least_q k ∷ 0x07 ∷ [])

unfoldable pub ours : Suite → Message → List ℕ → List ℕ
ours S M iv = build S M (our_filling S iv M.payload)

-- the longest payload that a body can carry
abbrev pub longest_payload : Bool → ℕ
longest_payload true = 65503
longest_payload false = 65535

-- the order, by the lengths alone: n bytes of payload, `before` bytes before the packet; what is found is the length of all
unfoldable pub room_of : Suite → ℕ → ℕ → ℕ → Res ℕ
room_of S before n room =
    need (leb n (longest_payload false)) 13 0
    (need (leb n (longest_payload S.aes)) 14 0
    (need (leb (before + packet_size S n) room) 15 0
    (accept (before + packet_size S n))))

-- what is written: `before`, then the packet
unfoldable pub write_after : List ℕ → Suite → Message → List ℕ → ℕ → Res (List ℕ)
write_after before S M iv room = and_then (room_of S (length before) (length M.payload) room) (λ _. accept (before ++ ours S M iv))

-- an output that was lent: it begins with what was written, the bytes past that stay; after a refusal it is as found
abbrev pub wrote_by : Res (List ℕ) → List ℕ → List ℕ
wrote_by (refuse n v) d = d
wrote_by (accept x) d = begun x d
