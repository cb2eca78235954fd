-- Reading a packet (docs/RULES.md, 6.6, 6.7, 6.7.1 and 6.9): the order of the refusals, what is found, what the buffer holds
-- afterwards and how many hash blocks are told. A definition for each stage of the reader.
use Rattle.std.specs.Prelude.{ℕ, ◌+◌, ◌-◌, ◌/◌, ◌%◌, Bool, true, false, cond, not, ◌&&◌, List, ◌≡◌, length, take, drop, get_or, leb, eqb}
use Rattle.refusal.specs.Order.{Res, refuse, accept, need, and_then}
use Rattle.octets.specs.Number.{unle}
use Rattle.octets.specs.Place.{part, pasted}
use Rattle.octets.specs.Equal.{same}
use Rattle.framing.specs.Known.{known}
use Rattle.framing.specs.Suite.{Suite}
use Rattle.framing.specs.Packet.{Message, bit, counting}

-- the message of a type that a packet's header and a payload say
abbrev pub message_of : ℕ → List ℕ → List ℕ → Message
message_of ty l payload = record { ty = ty; id = unle (part l 2 4); seq = unle (part l 6 4); payload = payload }

-- the length of the body, as the header has it
abbrev pub body_length : List ℕ → ℕ
body_length l = unle (part l 10 2)

-- the longest packet that is read (6.12): 12 bytes of header, 65,535 of body, 255 of pad, 2 behind it, and the code
abbrev pub longest_packet : Suite → ℕ
longest_packet S = 65804 + S.m

-- the head: the first byte, the type, the two bits, and the ceiling on the length; what is found is the type's number
unfoldable pub head_of : Suite → List ℕ → Res ℕ
head_of S l =
    need (leb 10 (length l)) 1 0
    (need (eqb (get_or l 0 0) 0x06) 2 0
    (need (known (get_or l 1 0 % 64)) 3 (get_or l 1 0 % 64)
    (need (eqb (get_or l 1 0 / 128 % 2) (bit S.aes)) 4 0
    (need (eqb (get_or l 1 0 / 64 % 2) (bit S.auth)) 5 0
    (need (leb (length l) (longest_packet S)) 9 0
    (accept (get_or l 1 0 % 64)))))))

-- how many bytes the code covers
abbrev pub coverage : Suite → List ℕ → ℕ
coverage S l = length l - S.m

-- the code that the packet ought to end with
abbrev pub code_of : Suite → List ℕ → List ℕ
code_of S l = S.mac (take (coverage S l) l)

-- the trailer, given that code: how many bytes are left before it
unfoldable pub trailer_of : Suite → List ℕ → List ℕ → Res ℕ
trailer_of S code l =
    need (leb S.m (length l)) 6 0
    (need (same (drop (coverage S l) l) code) 7 0
    (need (leb (S.m + 2) (length l)) 6 0
    (need (eqb (get_or l (coverage S l - 1) 0) 0x07) 8 (get_or l (coverage S l - 1) 0)
    (accept (coverage S l - 2 - get_or l (coverage S l - 2) 0)))))

-- without integrity there is no trailer
unfoldable pub before_trailer : Suite → List ℕ → List ℕ → Res ℕ
before_trailer S code l = cond S.auth (trailer_of S code l) (accept (length l))

-- what was decrypted, at least one byte: its last byte is the count of pad bytes, before it stand the pad bytes 1, 2, ..
unfoldable pub unpadded : List ℕ → Res (List ℕ)
unpadded x =
    let n = length x - 1 in
    let p = get_or x n 0 in
    need (leb p n) 10 0
    (need (same (part x (n - p) p) (counting p)) 11 0
    (accept (take (n - p) x)))

-- an encrypted body: the IV, then whole blocks, at least one
unfoldable pub decrypted : Suite → List ℕ → Res (List ℕ)
decrypted S b =
    need (leb 16 (length b)) 1 0
    (need (eqb ((length b - 16) % 16) 0) 12 0
    (need (not (eqb (length b - 16) 0)) 10 0
    (unpadded (S.dec (take 16 b) (drop 16 b)))))

-- the payload in a body
unfoldable pub payload_in : Suite → List ℕ → Res (List ℕ)
payload_in S b = cond S.aes (decrypted S b) (accept b)

-- header and body, what is left once the trailer is off
unfoldable pub body_in : Suite → List ℕ → Res (List ℕ)
body_in S l =
    need (leb 12 (length l)) 1 0
    (need (eqb (body_length l) (length l - 12)) 9 0
    (payload_in S (drop 12 l)))

-- the payload, given the code that the packet ought to end with
unfoldable pub payload_behind : Suite → List ℕ → List ℕ → Res (List ℕ)
payload_behind S code l = and_then (before_trailer S code l) (λ n. body_in S (take n l))

-- all behind the head, given that code and the type that the head found
unfoldable pub rest_of : Suite → List ℕ → List ℕ → ℕ → Res Message
rest_of S code l ty = and_then (payload_behind S code l) (λ payload. accept (message_of ty l payload))

-- the whole order, given that code
unfoldable pub read_with : Suite → List ℕ → List ℕ → Res Message
read_with S code l = and_then (head_of S l) (rest_of S code l)

-- a packet ought to end with the code of what comes before it
unfoldable pub read_of : Suite → List ℕ → Res Message
read_of S l = read_with S (code_of S l) l

-- whether a packet can be opened: the body that its header tells of lies within it, an IV and whole blocks behind that
unfoldable pub openable : List ℕ → Bool
openable l = leb 16 (body_length l) && (eqb ((body_length l - 16) % 16) 0 && leb (12 + body_length l) (length l))

-- a packet as opening leaves it: with AES the bytes after the IV up to the trailer are decrypted
unfoldable pub opened : Suite → List ℕ → List ℕ
opened S l = cond S.aes (pasted l 28 (S.dec (part l 12 16) (part l 28 (body_length l - 16)))) l

-- what a lent buffer holds: as found after a refusal
abbrev pub left_by : {A : Type 0} → Res A → List ℕ → List ℕ → List ℕ
left_by (refuse n v) found changed = found
left_by (accept a) found changed = changed

unfoldable pub left_of : Suite → List ℕ → List ℕ
left_of S l = left_by (read_of S l) l (opened S l)

abbrev pub accepts : {A : Type 0} → Res A → Bool
accepts (refuse n v) = false
accepts (accept a) = true

-- whether there is a code to compare: packets carry one, and this one is long enough for it
abbrev pub has_code : Suite → List ℕ → Bool
has_code S l = S.auth && leb S.m (length l)

-- whether the reader comes to compare it
unfoldable pub compares_code : Suite → List ℕ → Bool
compares_code S l = accepts (head_of S l) && has_code S l

-- the hash blocks told with every answer, given how many the code took
unfoldable pub blocks_with : Suite → ℕ → List ℕ → ℕ
blocks_with S n l = cond (compares_code S l) n 0

unfoldable pub blocks_of : Suite → List ℕ → ℕ
blocks_of S l = blocks_with S (S.blocks (coverage S l)) l

-- the code computed for a packet and the blocks that it took: none where no code is compared
pub record Computed (S : Suite) (l code : List ℕ) (blocks : ℕ) : Type 0 where
  pub right : has_code S l ≡ true → code ≡ code_of S l
  pub count : blocks ≡ cond (has_code S l) (S.blocks (coverage S l)) 0
