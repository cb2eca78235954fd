-- A session with neither algorithm is read alike whatever its keys are.
use Prim.Native.Nat.{ℕ}
use mathlib.Core.Bool.{false}
use mathlib.Core.List.{List}
use mathlib.Core.Path.{◌≡◌, ap}
use Rattle.suite.specs.Types.{encrypts, carries_code, code_length}
use Rattle.framing.specs.Suite.{Suite}
use Rattle.suite.specs.Session.{suite_of}
use Rattle.framing.specs.Read.{read_of, read_with, head_of, rest_of, payload_behind, before_trailer, body_in, payload_in}
use Rattle.suite.specs.declared.SubState.{SubState}
use Rattle.report.specs.Told.{plain, Bare}

-- a suite with neither algorithm is read as the plain one is, whatever its functions are
suite_read : (S : Suite) (l : List ℕ) → S.aes ≡ false → S.auth ≡ false → S.m ≡ 12 → read_of S l ≡ read_of plain l
unfolding read_of read_with head_of rest_of payload_behind before_trailer body_in payload_in
suite_read S l a b e =
    λ i. read_of (record { aes = a i; auth = b i; m = e i; mac = S.mac; blocks = S.blocks; enc = S.enc; dec = S.dec }) l

-- the keys do not count
pub any_keys : (s : SubState) → Bare s → (l : List ℕ) → read_of (suite_of s) l ≡ read_of plain l
any_keys s p l =
    suite_read (suite_of s) l (ap encrypts p.confidentiality) (ap carries_code p.integrity) (ap code_length p.integrity)
