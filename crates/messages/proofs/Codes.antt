-- A code determines the algorithm, so what an answer says by codes determines the answer.
use Prim.Native.Nat.{ℕ}
use mathlib.Core.List.{[], ◌∷◌}
use mathlib.Core.Path.{◌≡◌, refl, sym, ◌∙◌, ap}
use lib.ListN.{get_or}
use Rattle.messages.specs.Auth.{authentication_code, integrity_code, confidentiality_code}
use Rattle.messages.specs.Block.{Block, numbers}
use Rattle.messages.specs.OpenSession.{Response, response_numbers}
use Rattle.messages.specs.declared.auth.AuthenticationAlgorithm.{AuthenticationAlgorithm}
use Rattle.messages.specs.declared.auth.AuthenticationAlgorithm.TheVariants.{RakpNone, RakpHmacSha1, RakpHmacMd5, RakpHmacSha256}
use Rattle.messages.specs.declared.auth.IntegrityAlgorithm.{IntegrityAlgorithm}
use Rattle.messages.specs.declared.auth.IntegrityAlgorithm.TheVariants as integrity
use Rattle.messages.specs.declared.auth.ConfidentialityAlgorithm.{ConfidentialityAlgorithm}
use Rattle.messages.specs.declared.auth.ConfidentialityAlgorithm.TheVariants as confidentiality
use Rattle.messages.specs.declared.open_session.AlgorithmPayload.{AlgorithmPayload}
use Rattle.messages.specs.declared.open_session.AlgorithmPayload.TheVariants.{Authentication, Integrity, Confidentiality}
use Rattle.messages.specs.declared.open_session.OpenSessionResponse.{OpenSessionResponse}

-- the algorithms in the order of their codes
abbrev pub authentication_at : ℕ → AuthenticationAlgorithm
authentication_at c = get_or (RakpNone ∷ RakpHmacSha1 ∷ RakpHmacMd5 ∷ RakpHmacSha256 ∷ []) c RakpNone

abbrev pub integrity_at : ℕ → IntegrityAlgorithm
integrity_at c =
    get_or
    (integrity.None ∷ integrity.HmacSha1_96 ∷ integrity.HmacMd5_128 ∷ integrity.Md5_128 ∷ integrity.HmacSha256_128 ∷ [])
    c integrity.None

abbrev pub confidentiality_at : ℕ → ConfidentialityAlgorithm
confidentiality_at c =
    get_or
    (confidentiality.None ∷ confidentiality.AesCbc128 ∷ confidentiality.Xrc4_128 ∷ confidentiality.Xrc4_40 ∷ [])
    c confidentiality.None

pub authentication_at_code : (a : AuthenticationAlgorithm) → authentication_at (authentication_code a) ≡ a
authentication_at_code RakpNone = refl
authentication_at_code RakpHmacSha1 = refl
authentication_at_code RakpHmacMd5 = refl
authentication_at_code RakpHmacSha256 = refl

pub integrity_at_code : (i : IntegrityAlgorithm) → integrity_at (integrity_code i) ≡ i
integrity_at_code integrity.None = refl
integrity_at_code integrity.HmacSha1_96 = refl
integrity_at_code integrity.HmacMd5_128 = refl
integrity_at_code integrity.Md5_128 = refl
integrity_at_code integrity.HmacSha256_128 = refl

pub confidentiality_at_code : (c : ConfidentialityAlgorithm) → confidentiality_at (confidentiality_code c) ≡ c
confidentiality_at_code confidentiality.None = refl
confidentiality_at_code confidentiality.AesCbc128 = refl
confidentiality_at_code confidentiality.Xrc4_128 = refl
confidentiality_at_code confidentiality.Xrc4_40 = refl

-- the code determines the case
pub authentication_code_determines : (a b : AuthenticationAlgorithm) → authentication_code a ≡ authentication_code b → a ≡ b
authentication_code_determines a b e = sym (authentication_at_code a) ∙ ap authentication_at e ∙ authentication_at_code b

pub integrity_code_determines : (a b : IntegrityAlgorithm) → integrity_code a ≡ integrity_code b → a ≡ b
integrity_code_determines a b e = sym (integrity_at_code a) ∙ ap integrity_at e ∙ integrity_at_code b

pub confidentiality_code_determines : (a b : ConfidentialityAlgorithm) → confidentiality_code a ≡ confidentiality_code b → a ≡ b
confidentiality_code_determines a b e = sym (confidentiality_at_code a) ∙ ap confidentiality_at e ∙ confidentiality_at_code b

-- the payload of a block's numbers
abbrev pub payload_at : Block → AlgorithmPayload
payload_at b =
    get_or
    (Authentication (authentication_at b.code) ∷ Integrity (integrity_at b.code) ∷ Confidentiality (confidentiality_at b.code) ∷ [])
    b.type (Authentication RakpNone)

pub payload_at_numbers : (p : AlgorithmPayload) → payload_at (numbers p) ≡ p
payload_at_numbers (Authentication a) = ap Authentication (authentication_at_code a)
payload_at_numbers (Integrity i) = ap Integrity (integrity_at_code i)
payload_at_numbers (Confidentiality c) = ap Confidentiality (confidentiality_at_code c)

pub payload_one : (p q : AlgorithmPayload) → numbers p ≡ numbers q → p ≡ q
payload_one p q e = sym (payload_at_numbers p) ∙ ap payload_at e ∙ payload_at_numbers q

abbrev response_at : Response → OpenSessionResponse
response_at r =
    record {
      tag = r.tag;
      level = r.level;
      console = r.console;
      system = r.system;
      authentication = authentication_at r.authentication;
      integrity = integrity_at r.integrity;
      confidentiality = confidentiality_at r.confidentiality;
    }

response_at_numbers : (r : OpenSessionResponse) → response_at (response_numbers r) ≡ r
unfolding response_numbers
response_at_numbers r =
    rw (authentication_at_code r.authentication, integrity_at_code r.integrity, confidentiality_at_code r.confidentiality)

pub response_one : (p q : OpenSessionResponse) → response_numbers p ≡ response_numbers q → p ≡ q
response_one p q e = sym (response_at_numbers p) ∙ ap response_at e ∙ response_at_numbers q
