-- The marked cases (docs/RULES.md, 6.11), each as a claim over every suite and all contents of the lengths named.
use Rattle.std.specs.Prelude.{ℕ, ◌+◌, ◌≤◌, true, false, cond, List, [], ◌∷◌, ◌++◌, ◌≡◌, length, get_or, take, drop, replicate, eqb}
use Rattle.refusal.specs.Order.{Res, refuse, accept, need, and_then}
use Rattle.running.specs.Hash.{Hash}
use Rattle.running.specs.Mac.{hmac_blocks_of}
use Rattle.framing.specs.Suite.{Suite, KeepsLength, Lengths}
use Rattle.framing.specs.Packet.{Message, Filling, body_of, build}
use Rattle.framing.specs.Read.{message_of, body_length, head_of, coverage, code_of, before_trailer, payload_in, read_of}
use Rattle.framing.specs.Outer.{outer, write_of, write_datagram_of}

-- all of a list of claims
abbrev pub Every : List (Type 0) → Type 0
Every [] = Unit {0}
Every (A ∷ l) = A × Every l

-- without algorithms these bytes are read as this message, and it is written as these bytes
pub record Packet (l : List ℕ) (M : Message) : Type 0 where
  pub reads : (S : Suite) → S.aes ≡ false → S.auth ≡ false → read_of S l ≡ accept M
  pub writes : (S : Suite) → S.aes ≡ false → S.auth ≡ false → (iv : List ℕ) → write_of S M iv (length l) ≡ accept l

-- what the rules leave open as the writer takes it, and the size of the body that this makes: p with AES, q with integrity
pub record Taken : Type 0 where
  pub p : ℕ
  pub q : ℕ
  pub body : ℕ

-- p pad bytes, and q bytes FF
abbrev pub filling_of : List ℕ → Taken → Filling
filling_of iv z = record { iv = iv; p = z.p; pads = replicate z.q 0xFF }

-- the length of the packet
abbrev pub size_of : Suite → Taken → ℕ
size_of S z = 12 + z.body + cond S.auth (z.q + 2 + S.m) 0

-- the IV has sixteen bytes, where there is one
abbrev pub Sixteen : Suite → List ℕ → Type 0
Sixteen S iv = S.aes ≡ true → length iv ≡ 16

-- the writer accepts a message: the packet is what the rules build with that filling, and it is written wherever it has room; the sizes of
-- body and packet are those named, so long as code and encryption have the lengths that they should
pub record Writes (S : Suite) (M : Message) (iv : List ℕ) (z : Taken) : Type 0 where
  pub body : KeepsLength S → Sixteen S iv → length (body_of S M (filling_of iv z)) ≡ z.body
  pub size : Lengths S → Sixteen S iv → length (build S M (filling_of iv z)) ≡ size_of S z
  pub packet : (room : ℕ) → size_of S z ≤ room → write_of S M iv room ≡ accept (build S M (filling_of iv z))
  pub datagram : (room : ℕ) → 4 + size_of S z ≤ room → write_datagram_of S M iv room ≡ accept (outer ++ build S M (filling_of iv z))

-- it refuses the message, whatever the room
pub record Refuses (S : Suite) (M : Message) (iv : List ℕ) (n v : ℕ) : Type 0 where
  pub packet : (room : ℕ) → write_of S M iv room ≡ refuse n v
  pub datagram : (room : ℕ) → write_datagram_of S M iv room ≡ refuse n v

-- the writer's answer to a message
abbrev pub Answers : Suite → Message → List ℕ → Res Taken → Type 0
Answers S M iv (refuse n v) = Refuses S M iv n v
Answers S M iv (accept z) = Writes S M iv z

-- its answer in a suite to any payload of n bytes, whatever they are, under any IV
abbrev pub AnswersTo : ℕ → Suite → Res Taken → Type 0
AnswersTo n S r = (M : Message) (iv : List ℕ) → length M.payload ≡ n → Answers S M iv r

-- with integrity only and a code of 12 bytes: q, and the packet's size
abbrev pub Sealed : ℕ → ℕ → ℕ → Type 0
Sealed n q t =
    let z : Taken = record { p = 0; q = q; body = n } in
    (S : Suite) → S.aes ≡ false → S.auth ≡ true → S.m ≡ 12 → AnswersTo n S (accept z) × (size_of S z ≡ t)

-- with AES, with or without integrity; q is that of rule 6.4, where there is integrity
abbrev pub Encrypted : ℕ → Res Taken → Type 0
Encrypted n r = (S : Suite) → S.aes ≡ true → AnswersTo n S r

-- with both and a code of 12 bytes: the packet's size too
abbrev pub Both : ℕ → Taken → ℕ → Type 0
Both n z t = (S : Suite) → S.aes ≡ true → S.auth ≡ true → S.m ≡ 12 → AnswersTo n S (accept z) × (size_of S z ≡ t)

-- a packet that the checks of head, code and trailer let pass, with a message of the type ty and k bytes left
pub record Reached (S : Suite) (l : List ℕ) (ty k : ℕ) : Type 0 where
  pub head : head_of S l ≡ accept ty
  pub trailer : before_trailer S (code_of S l) l ≡ accept k
  pub within : length (take k l) ≡ k

-- with AES a body of n bytes, its length told rightly, is refused with the number r
abbrev pub Body : ℕ → ℕ → Type 0
Body n r =
    (S : Suite) → S.aes ≡ true → (l : List ℕ) (ty : ℕ) → Reached S l ty (12 + n) → body_length (take (12 + n) l) ≡ n
    → read_of S l ≡ refuse r 0

-- a packet with 20 bytes before byte q, the head, the code and the next header right
pub record Padded (S : Suite) (l : List ℕ) (ty q : ℕ) : Type 0 where
  pub auth : S.auth ≡ true
  pub head : head_of S l ≡ accept ty
  pub size : length l ≡ 20 + 2 + S.m
  pub code : drop (coverage S l) l ≡ code_of S l
  pub next : get_or l 21 0 ≡ 0x07
  pub count : get_or l 20 0 ≡ q

-- then q is too great
abbrev pub TooFew : ℕ → Type 0
TooFew q = (S : Suite) (l : List ℕ) (ty : ℕ) → Padded S l ty q → read_of S l ≡ refuse 1 0

-- or reading goes on, with n bytes of body
abbrev pub GoesOn : ℕ → ℕ → Type 0
GoesOn q n =
    (S : Suite) (l : List ℕ) (ty : ℕ) → Padded S l ty q
    → read_of S l
    ≡ and_then (need (eqb (body_length (take (12 + n) l)) n) 9 0 (payload_in S (drop 12 (take (12 + n) l)))) (λ payload. accept (message_of ty l payload))

-- HMAC over the hash H under a key of up to 64 bytes compresses b blocks for n bytes
abbrev pub Compresses : {C : Type 0} → Hash C → ℕ → ℕ → Type 0
Compresses H n b = (k l : List ℕ) → length k ≤ 64 → length l ≡ n → hmac_blocks_of H k l ≡ b

-- the cases 1 to 8, the last over the hash that makes the code
abbrev pub marked_cases : {C : Type 0} → Hash C → List (Type 0)
marked_cases H =
    Packet
    (0x06 ∷ 0x00 ∷ 0x0D ∷ 0x0C ∷ 0x0B ∷ 0x0A ∷ 0x01 ∷ 0x00 ∷ 0x00 ∷ 0x00 ∷ 0x02 ∷ 0x00 ∷ 0xAA ∷ 0xBB ∷ [])
    (record { ty = 0; id = 0x0A0B0C0D; seq = 1; payload = 0xAA ∷ 0xBB ∷ [] })
    ∷ Sealed 0 2 28
    ∷ Sealed 1 1 28
    ∷ Sealed 2 0 28
    ∷ Sealed 3 3 32
    ∷ Both 0 (record { p = 15; q = 2; body = 32 }) 60
    ∷ Encrypted 15 (accept (record { p = 0; q = 2; body = 32 }))
    ∷ Encrypted 16 (accept (record { p = 15; q = 2; body = 48 }))
    ∷ Encrypted 65503 (accept (record { p = 0; q = 2; body = 65520 }))
    ∷ Encrypted 65504 (refuse 14 0)
    ∷ Body 15 1
    ∷ Body 16 10
    ∷ Body 31 12
    ∷ GoesOn 8 0
    ∷ TooFew 9
    ∷ TooFew 11
    ∷ Compresses H 0 4
    ∷ Compresses H 55 4
    ∷ Compresses H 56 5
    ∷ []
