-- The table of refusals (docs/RULES.md, 1.1 and 1.2): what number each refusal has, and which of them carry a byte of the
-- input. Every promise of the layer says a refusal by these.
use Rattle.std.specs.Prelude.{ℕ, Bool, true, false, ◌||◌, ◌&&◌, not, List, [], ◌∷◌, Option, Some, None, cond, eqb}
use Rattle.refusal.specs.declared.Refusal.{Refusal}
use Rattle.refusal.specs.declared.Refusal.TheVariants as refusal

-- a refusal's number, and the byte of the input that goes with it, 0 where none does
abbrev pub entry_of : Refusal → ℕ × ℕ
entry_of refusal.NotEnoughData = (1, 0)
entry_of refusal.NotIpmiV2_0 = (2, 0)
entry_of (refusal.InvalidPayloadType b) = (3, b)
entry_of refusal.MismatchingEncryptionState = (4, 0)
entry_of refusal.MismatchingAuthenticationState = (5, 0)
entry_of refusal.IncorrectIntegrityTrailerLen = (6, 0)
entry_of refusal.AuthCodeMismatch = (7, 0)
entry_of (refusal.UnknownNextHeader b) = (8, b)
entry_of refusal.IncorrectPayloadLen = (9, 0)
entry_of refusal.IncorrectConfidentialityTrailerLen = (10, 0)
entry_of refusal.InvalidConfidentialityTrailer = (11, 0)
entry_of refusal.NotWholeBlocks = (12, 0)
entry_of refusal.PayloadTooLong = (13, 0)
entry_of refusal.EncryptedPayloadTooLong = (14, 0)
entry_of refusal.OutputTooShort = (15, 0)
entry_of refusal.NotRmcpForIpmi = (16, 0)
entry_of (refusal.NamedStatus b) = (17, b)
entry_of (refusal.UnnamedStatus b) = (18, b)
entry_of (refusal.InvalidPrivilegeLevel b) = (19, b)
entry_of refusal.ZeroRemoteConsoleSessionId = (20, 0)
entry_of refusal.ZeroManagedSystemSessionId = (21, 0)
entry_of refusal.IncorrectPayloadLenValue = (22, 0)
entry_of (refusal.UnknownAlgorithm b) = (23, b)
entry_of (refusal.UnknownBlockType b) = (24, b)
entry_of refusal.WrongKindOfBlock = (25, 0)
entry_of refusal.MessageTagMismatch = (27, 0)
entry_of refusal.SessionIdMismatch = (28, 0)
entry_of refusal.AlgorithmNotCarried = (29, 0)
entry_of refusal.InvalidKeyExchangeAuthCodeLen = (30, 0)
entry_of refusal.Declined = (31, 0)
entry_of refusal.InvalidIntegrityCheckValue = (32, 0)
entry_of refusal.WrongStep = (33, 0)
entry_of refusal.InvalidUsername = (34, 0)
entry_of refusal.InvalidKgLen = (35, 0)
entry_of refusal.PasswordTooLong = (36, 0)
entry_of refusal.TooLongToHash = (37, 0)
entry_of refusal.AlreadyTaken = (38, 0)
entry_of refusal.TooOld = (39, 0)
entry_of refusal.UsernameTooLong = (40, 0)

abbrev pub number_of : Refusal → ℕ
number_of r = (entry_of r).0

abbrev pub value_of : Refusal → ℕ
value_of r = (entry_of r).1

-- the numbers that name a refusal; any other names none
abbrev pub numbers : List ℕ
numbers =
    1 ∷ 2 ∷ 3 ∷ 4 ∷ 5 ∷ 6 ∷ 7 ∷ 8 ∷ 9 ∷ 10 ∷
    11 ∷ 12 ∷ 13 ∷ 14 ∷ 15 ∷ 16 ∷ 17 ∷ 18 ∷ 19 ∷ 20 ∷
    21 ∷ 22 ∷ 23 ∷ 24 ∷ 25 ∷ 27 ∷ 28 ∷ 29 ∷ 30 ∷
    31 ∷ 32 ∷ 33 ∷ 34 ∷ 35 ∷ 36 ∷ 37 ∷ 38 ∷ 39 ∷ 40 ∷ []

-- the numbers that were retired: older help books give each its old meaning, so no refusal gets one again
abbrev pub retired : List ℕ
retired = 26 ∷ []

-- the numbers that a byte goes with: 3 the six bits of the type, the others a whole byte
abbrev pub carrying : List ℕ
carrying = 3 ∷ 8 ∷ 17 ∷ 18 ∷ 19 ∷ 23 ∷ 24 ∷ []

abbrev pub among : ℕ → List ℕ → Bool
among n [] = false
among n (m ∷ ms) = eqb n m || among n ms

-- whether no number stands twice in a list
abbrev pub unrepeated : List ℕ → Bool
unrepeated [] = true
unrepeated (n ∷ ns) = not (among n ns) && unrepeated ns

-- whether a byte of the input goes with the number
abbrev pub carries_of : Refusal → Bool
carries_of r = among (number_of r) carrying

-- that byte, where one goes with it
abbrev pub carried_of : Refusal → Option ℕ
carried_of r = cond (carries_of r) (Some (value_of r)) None
