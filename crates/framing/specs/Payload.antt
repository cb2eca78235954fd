-- The payload's place in a packet that was read (docs/RULES.md, 6.8).
use Rattle.std.specs.Prelude.{ℕ, ◌+◌, ◌<◌, Bool, true, false, cond, List, [], ◌⊎◌, ◌≡◌, length, leb}
use Rattle.octets.specs.Place.{part}

-- where a payload begins
abbrev pub payload_start : Bool → ℕ
payload_start true = 28
payload_start false = 12

-- whether n bytes of payload lie within the packet
abbrev pub payload_fits : List ℕ → Bool → ℕ → Bool
payload_fits packet encrypted n = leb (payload_start encrypted + n) (length packet)

-- the part that is handed out, empty where it would pass the end
unfoldable pub payload_of : List ℕ → Bool → ℕ → List ℕ
payload_of packet encrypted n = cond (payload_fits packet encrypted n) (part packet (payload_start encrypted) n) []

-- where in the packet it lies
unfoldable pub payload_at : List ℕ → Bool → ℕ → ℕ
payload_at packet encrypted n = cond (payload_fits packet encrypted n) (payload_start encrypted) 0

-- when that part is empty: the length is 0, or the part would pass the packet's end
abbrev pub PassesOrNone : List ℕ → Bool → ℕ → Type 0
PassesOrNone packet encrypted n = (n ≡ 0) ⊎ (length packet < payload_start encrypted + n)
