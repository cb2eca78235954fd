-- The payload types and the session's algorithms (docs/RULES.md, 6.1 to 6.4).
use Rattle.std.specs.Prelude.{Result, ℕ, Bool, true, false, ◌≡◌}
use Rattle.refusal.specs.Order.{need, accept}
use Rattle.refusal.specs.Answer.{told_as}
use Rattle.refusal.specs.declared.Refusal.{Refusal}
use Rattle.framing.specs.Known.{known}
use Rattle.suite.specs.declared.PayloadType.{PayloadType}
use Rattle.suite.specs.declared.PayloadType.TheVariants.{IpmiMessage, Sol, RmcpPlusOpenSessionRequest, RmcpPlusOpenSessionResponse}
use Rattle.suite.specs.declared.PayloadType.TheVariants.{RakpMessage1, RakpMessage2, RakpMessage3, RakpMessage4}
use Rattle.suite.specs.declared.Confidentiality as C
use Rattle.suite.specs.declared.Integrity as I

-- the number that stands for each type in a packet
abbrev pub type_number : PayloadType → ℕ
type_number IpmiMessage = 0x00
type_number Sol = 0x01
type_number RmcpPlusOpenSessionRequest = 0x10
type_number RmcpPlusOpenSessionResponse = 0x11
type_number RakpMessage1 = 0x12
type_number RakpMessage2 = 0x13
type_number RakpMessage3 = 0x14
type_number RakpMessage4 = 0x15

-- what is answered for a number: the type that it stands for, or refusal 3 with the number where it stands for none
abbrev pub TypeOf : ℕ → Result PayloadType Refusal → Type 0
TypeOf n r = told_as type_number r ≡ need (known n) 3 n (accept n)

-- whether a session encrypts
abbrev pub encrypts : C.Confidentiality → Bool
encrypts C.TheVariants.None = false
encrypts C.TheVariants.AesCbc128 = true

-- whether its packets carry a code
abbrev pub carries_code : I.Integrity → Bool
carries_code I.TheVariants.None = false
carries_code I.TheVariants.HmacSha1_96 = true

-- the length of the code (6.4); without integrity it stands in the ceiling of reading alone (6.12)
abbrev pub code_length : I.Integrity → ℕ
code_length I.TheVariants.None = 12
code_length I.TheVariants.HmacSha1_96 = 12
