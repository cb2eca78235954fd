-- Codes of the algorithms (docs/RULES.md, 7.3; the Standard, 13.28), and privilege levels (7.2).
use Rattle.std.specs.Prelude.{ℕ, Bool, ◌&&◌, [], ◌∷◌, leb, get_or}
use Rattle.refusal.specs.Order.{Res, accept, need}
use Rattle.messages.specs.declared.auth.AuthenticationAlgorithm.{AuthenticationAlgorithm}
use Rattle.messages.specs.declared.auth.AuthenticationAlgorithm.TheVariants.{RakpNone, RakpHmacSha1, RakpHmacMd5, RakpHmacSha256}
use Rattle.messages.specs.declared.auth.IntegrityAlgorithm.{IntegrityAlgorithm}
use Rattle.messages.specs.declared.auth.IntegrityAlgorithm.TheVariants as integrity
use Rattle.messages.specs.declared.auth.ConfidentialityAlgorithm.{ConfidentialityAlgorithm}
use Rattle.messages.specs.declared.auth.ConfidentialityAlgorithm.TheVariants as confidentiality

abbrev pub authentication_code : AuthenticationAlgorithm → ℕ
authentication_code RakpNone = 0
authentication_code RakpHmacSha1 = 1
authentication_code RakpHmacMd5 = 2
authentication_code RakpHmacSha256 = 3

abbrev pub integrity_code : IntegrityAlgorithm → ℕ
integrity_code integrity.None = 0
integrity_code integrity.HmacSha1_96 = 1
integrity_code integrity.HmacMd5_128 = 2
integrity_code integrity.Md5_128 = 3
integrity_code integrity.HmacSha256_128 = 4

abbrev pub confidentiality_code : ConfidentialityAlgorithm → ℕ
confidentiality_code confidentiality.None = 0
confidentiality_code confidentiality.AesCbc128 = 1
confidentiality_code confidentiality.Xrc4_128 = 2
confidentiality_code confidentiality.Xrc4_40 = 3

-- the last known code of each type, 0 authentication, 1 integrity, 2 confidentiality: 4 for integrity, 3 for the others
abbrev pub last_code : ℕ → ℕ
last_code t = get_or (3 ∷ 4 ∷ 3 ∷ []) t 0

-- the code c of an algorithm of the type t: an unknown one is 23
unfoldable pub coded : ℕ → ℕ → Res ℕ
coded t c = need (leb c (last_code t)) 23 c (accept c)

-- levels are 1 to 5
unfoldable pub is_level : ℕ → Bool
is_level b = leb 1 b && leb b 5
