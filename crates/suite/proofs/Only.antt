-- No second answer: two answers that keep a call's promise on the same arguments are equal.
use Prim.Native.Nat.{ℕ}
use mathlib.Core.Bool.{cond}
use mathlib.Core.Path.{◌≡◌, refl, sym, ◌∙◌, ap}
use lib.Dec.{eqb}
use Rattle.refusal.proofs.Answer.{answer_one}
use Rattle.suite.specs.Types.{type_number}
use Rattle.suite.specs.declared.PayloadType.{PayloadType}
use Rattle.suite.specs.declared.PayloadType.TheVariants.{IpmiMessage, Sol, RmcpPlusOpenSessionRequest, RmcpPlusOpenSessionResponse}
use Rattle.suite.specs.declared.PayloadType.TheVariants.{RakpMessage1, RakpMessage2, RakpMessage3, RakpMessage4}
use Rattle.suite.proofs.PayloadType.number.Reads as number-reads
use Rattle.suite.proofs.PayloadTypeTryFromU8.try_from.Reads as try-from-reads
use Rattle.suite.proofs.code_len.Reads as code-len-reads
use Rattle.suite.proofs.carries_code.Reads as carries-code-reads
use Rattle.suite.proofs.encrypts.Reads as encrypts-reads
use Rattle.suite.proofs.make_bit.Reads as make-bit-reads
use Rattle.suite.proofs.find_longest_packet.Reads as find-longest-packet-reads
use Rattle.suite.proofs.make_code.Reads as make-code-reads

-- a type is known by its number
type_of : ℕ → PayloadType
type_of n =
    cond (eqb n 0x00) IpmiMessage
    (cond (eqb n 0x01) Sol
    (cond (eqb n 0x10) RmcpPlusOpenSessionRequest
    (cond (eqb n 0x11) RmcpPlusOpenSessionResponse
    (cond (eqb n 0x12) RakpMessage1 (cond (eqb n 0x13) RakpMessage2 (cond (eqb n 0x14) RakpMessage3 RakpMessage4))))))

typed : (t : PayloadType) → type_of (type_number t) ≡ t
unfolding type_of
typed IpmiMessage = refl
typed Sol = refl
typed RmcpPlusOpenSessionRequest = refl
typed RmcpPlusOpenSessionResponse = refl
typed RakpMessage1 = refl
typed RakpMessage2 = refl
typed RakpMessage3 = refl
typed RakpMessage4 = refl

pub type_one : (t u : PayloadType) → type_number t ≡ type_number u → t ≡ u
type_one t u e = sym (typed t) ∙ ap type_of e ∙ typed u

pub number_only : (κs : _) (args : _) (a b : _) (s t : _) → number-reads.Post κs args a s → number-reads.Post κs args b t → a ≡ b
number_only κs args a b s t p q = p.0 ∙ sym q.0

pub try_from_only : (κs : _) (args : _) (a b : _) (s t : _) → try-from-reads.Post κs args a s → try-from-reads.Post κs args b t → a ≡ b
try_from_only κs args a b s t p q = answer_one type_number type_one a b (p ∙ sym q)

pub code_len_only : (κs : _) (args : _) (a b : _) (s t : _) → code-len-reads.Post κs args a s → code-len-reads.Post κs args b t → a ≡ b
code_len_only κs args a b s t p q = p ∙ sym q

pub carries_code_only : (κs : _) (args : _) (a b : _) (s t : _) → carries-code-reads.Post κs args a s → carries-code-reads.Post κs args b t → a ≡ b
carries_code_only κs args a b s t p q = p ∙ sym q

pub encrypts_only : (κs : _) (args : _) (a b : _) (s t : _) → encrypts-reads.Post κs args a s → encrypts-reads.Post κs args b t → a ≡ b
encrypts_only κs args a b s t p q = p ∙ sym q

pub make_bit_only : (κs : _) (args : _) (a b : _) (s t : _) → make-bit-reads.Post κs args a s → make-bit-reads.Post κs args b t → a ≡ b
make_bit_only κs args a b s t p q = p ∙ sym q

pub find_longest_packet_only : (κs : _) (args : _) (a b : _) (s t : _)
    → find-longest-packet-reads.Post κs args a s → find-longest-packet-reads.Post κs args b t → a ≡ b
find_longest_packet_only κs args a b s t p q = p ∙ sym q

pub make_code_only : (κs : _) (args : _) (a b : _) (s t : _) → make-code-reads.Post κs args a s → make-code-reads.Post κs args b t → a ≡ b
make_code_only κs args a b s t p q =
    let e : a.code ≡ b.code = p.code ∙ sym q.code in
    let f : a.blocks ≡ b.blocks = p.blocks ∙ sym q.blocks in
    λ i. record { code = e i; blocks = f i }
