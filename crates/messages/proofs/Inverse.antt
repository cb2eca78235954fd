-- A block that is written is read back as what it was written from.
use Prim.Native.Nat.{ℕ}
use mathlib.Core.Bool.{true}
use mathlib.Core.List.{List}
use mathlib.Core.Path.{◌≡◌, refl, ◌∙◌, ap}
use lib.Dec.{leb}
use Rattle.std.specs.Prelude.{Result, Ok}
use Rattle.refusal.specs.Order.{accept}
use Rattle.refusal.specs.declared.Refusal.{Refusal}
use Rattle.refusal.proofs.Order.{pass, then_accept}
use Rattle.messages.specs.Auth.{authentication_code, integrity_code, confidentiality_code, last_code, coded}
use Rattle.messages.specs.Block.{known, block_of, block_bytes, numbers, bytes_of}
use Rattle.messages.specs.Answers.{told_block}
use Rattle.messages.specs.declared.auth.AuthenticationAlgorithm.{AuthenticationAlgorithm}
use Rattle.messages.specs.declared.auth.AuthenticationAlgorithm.TheVariants.{RakpNone, RakpHmacSha1, RakpHmacMd5, RakpHmacSha256}
use Rattle.messages.specs.declared.auth.IntegrityAlgorithm.{IntegrityAlgorithm}
use Rattle.messages.specs.declared.auth.IntegrityAlgorithm.TheVariants as integrity
use Rattle.messages.specs.declared.auth.ConfidentialityAlgorithm.{ConfidentialityAlgorithm}
use Rattle.messages.specs.declared.auth.ConfidentialityAlgorithm.TheVariants as confidentiality
use Rattle.messages.specs.declared.open_session.AlgorithmPayload.{AlgorithmPayload}
use Rattle.messages.specs.declared.open_session.AlgorithmPayload.TheVariants.{Authentication, Integrity, Confidentiality}
use Rattle.messages.proofs.Only.{block_one}

-- every code of an algorithm with a name is known
authentication_known : (a : AuthenticationAlgorithm) → leb (authentication_code a) (last_code 0) ≡ true
authentication_known RakpNone = refl
authentication_known RakpHmacSha1 = refl
authentication_known RakpHmacMd5 = refl
authentication_known RakpHmacSha256 = refl

integrity_known : (i : IntegrityAlgorithm) → leb (integrity_code i) (last_code 1) ≡ true
integrity_known integrity.None = refl
integrity_known integrity.HmacSha1_96 = refl
integrity_known integrity.HmacMd5_128 = refl
integrity_known integrity.Md5_128 = refl
integrity_known integrity.HmacSha256_128 = refl

confidentiality_known : (c : ConfidentialityAlgorithm) → leb (confidentiality_code c) (last_code 2) ≡ true
confidentiality_known confidentiality.None = refl
confidentiality_known confidentiality.AesCbc128 = refl
confidentiality_known confidentiality.Xrc4_128 = refl
confidentiality_known confidentiality.Xrc4_40 = refl

read_back : (t c : ℕ) → leb t 2 ≡ true → leb c (last_code t) ≡ true
    → block_of (block_bytes t c) ≡ accept (record { type = t; code = c })
unfolding block_of known coded
read_back t c h k = pass _ _ _ _ refl (pass _ _ _ _ h (then_accept _ _ c (pass _ _ _ _ k refl)))

-- of the bytes that are written the reader's definition says what was written
pub written_read : (p : AlgorithmPayload) → block_of (bytes_of p) ≡ accept (numbers p)
written_read (Authentication a) = read_back 0 _ refl (authentication_known a)
written_read (Integrity i) = read_back 1 _ refl (integrity_known i)
written_read (Confidentiality c) = read_back 2 _ refl (confidentiality_known c)

-- so the reader's promise on what the writer's promise gives leaves one answer: what was written
pub round_trip : (p : AlgorithmPayload) (l : List ℕ) (a : Result AlgorithmPayload Refusal) → l ≡ bytes_of p → told_block a ≡ block_of l → a ≡ Ok p
round_trip p l a e f = block_one a (Ok p) (f ∙ ap block_of e ∙ written_read p)
