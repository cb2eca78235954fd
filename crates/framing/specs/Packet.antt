-- The frame rules (docs/RULES.md, 6.1 to 6.4): which bytes are a packet of a session, made from the message and
-- from what the rules leave open.
use Rattle.std.specs.Prelude.{ℕ, zero, suc, ◌+◌, ◌*◌, ◌%◌, ◌≤◌, ◌<◌, Bool, true, false, cond, List, [], ◌∷◌, ◌++◌, ◌≡◌, length}
use Rattle.octets.specs.Bytes.{Bytes}
use Rattle.octets.specs.Number.{le}
use Rattle.framing.specs.Known.{known}
use Rattle.framing.specs.Suite.{Suite}

-- what a packet says
pub record Message : Type 0 where
  -- the number of its type
  pub ty : ℕ
  pub id : ℕ
  pub seq : ℕ
  pub payload : List ℕ

-- what the rules leave open: the IV and the count of pad bytes, with AES; the integrity pad, with a code
pub record Filling : Type 0 where
  pub iv : List ℕ
  pub p : ℕ
  pub pads : List ℕ

abbrev pub bit : Bool → ℕ
bit true = 1
bit false = 0

-- 1, 2, .. p
abbrev pub counting : ℕ → List ℕ
counting zero = []
counting (suc p) = counting p ++ (suc p ∷ [])

-- what is encrypted: the payload, the pad bytes, and their count
unfoldable pub plain_of : List ℕ → ℕ → List ℕ
plain_of payload p = payload ++ (counting p ++ (p ∷ []))

-- the body: the payload, or the IV and the encrypted part
unfoldable pub body_of : Suite → Message → Filling → List ℕ
body_of S M F = cond S.aes (F.iv ++ S.enc F.iv (plain_of M.payload F.p)) M.payload

-- the twelve bytes before a body of n bytes
unfoldable pub header_of : Suite → Message → ℕ → List ℕ
header_of S M n = 0x06 ∷ (128 * bit S.aes + 64 * bit S.auth + M.ty) ∷ (le 4 M.id ++ (le 4 M.seq ++ le 2 n))

unfoldable pub framed : Suite → Message → Filling → List ℕ
framed S M F = header_of S M (length (body_of S M F)) ++ body_of S M F

-- with integrity, what the code covers: everything from 06 to 07
unfoldable pub covered : Suite → Message → Filling → List ℕ
covered S M F = framed S M F ++ (F.pads ++ (length F.pads ∷ 0x07 ∷ []))

-- with integrity, what follows the body: the pad, its length, 07 and the code; else nothing
unfoldable pub trailer : Suite → Message → Filling → List ℕ
trailer S M F = cond S.auth (F.pads ++ (length F.pads ∷ 0x07 ∷ S.mac (covered S M F))) []

unfoldable pub build : Suite → Message → Filling → List ℕ
build S M F = cond S.auth (covered S M F ++ S.mac (covered S M F)) (framed S M F)

pub record Legal (S : Suite) (M : Message) (F : Filling) : Type 0 where
  pub ty_known : known M.ty ≡ true
  pub id_fits : M.id < 0x100000000
  pub seq_fits : M.seq < 0x100000000
  pub payload_bytes : Bytes M.payload
  pub body_fits : length (body_of S M F) ≤ 65535
  pub iv_size : S.aes ≡ true → length F.iv ≡ 16
  pub iv_bytes : S.aes ≡ true → Bytes F.iv
  pub p_fits : S.aes ≡ true → F.p ≤ 255
  pub whole : S.aes ≡ true → length (plain_of M.payload F.p) % 16 ≡ 0
  pub pads_few : S.auth ≡ true → length F.pads ≤ 255
  pub pads_bytes : S.auth ≡ true → Bytes F.pads
