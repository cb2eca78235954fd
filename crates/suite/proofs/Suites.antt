-- The real algorithms keep what the theorems on frames ask of them: HMAC-SHA1-96 under K1 and AES-CBC under the AES key.
use Prim.Native.Nat.{ℕ, ◌≤◌}
use native.Mathlib.Omega.{arith}
use mathlib.Core.List.{List}
use mathlib.Core.Path.{◌≡◌}
use lib.ListN.{length}
use lib.Seq.{length-take-le}
use Rattle.octets.specs.Bytes.{Bytes}
use Rattle.octets.proofs.Bytes.{bytes_take}
use Rattle.sha1_hmac.specs.Hash.{hmac_sha1}
use Rattle.sha1_hmac.proofs.Laws.{mac_length}
use Rattle.cbc.proofs.Inverse.{encrypt_length, decrypt_length, decrypt_bytes, decrypt_encrypt, encrypt_decrypt}
use Rattle.keys.specs.Keys.{aes_key_of}
use Rattle.framing.specs.Suite.{Laws, Lengths}
use Rattle.suite.specs.Types.{code_length}
use Rattle.suite.specs.Code.{longest_code}
use Rattle.suite.specs.Session.{suite_of}
use Rattle.suite.specs.declared.SubState.{SubState}
use Rattle.suite.specs.declared.Integrity as I

pub code_short : (i : I.Integrity) → code_length i ≤ longest_code
code_short I.TheVariants.None = omega arith
code_short I.TheVariants.HmacSha1_96 = omega arith

mac_code_length : (s : SubState) (l : List ℕ) → length ((suite_of s).mac l) ≡ code_length s.integrity
mac_code_length s l =
    length-take-le (code_length s.integrity) (hmac_sha1 s.keys.k1 l) (omega (arith, mac_length s.keys.k1 l, code_short s.integrity))

-- whatever the algorithms and the keys
pub suite_lengths : (s : SubState) → Lengths (suite_of s)
suite_lengths s = record { mac_length = λ _. mac_code_length s; enc_length = λ _. encrypt_length (aes_key_of s.keys) }

-- the same so long as the keys are bytes, as they are in every value of their type
pub suite_laws : (s : SubState) → Bytes s.keys.k2 → Laws (suite_of s)
suite_laws s hk =
    let key : List ℕ = aes_key_of s.keys in
    let hb : Bytes key = bytes_take 16 s.keys.k2 hk in
    record {
      mac_length = mac_code_length s;
      enc_length = encrypt_length key;
      dec_length = decrypt_length key;
      dec_bytes = λ iv l hi bi h bl. decrypt_bytes key iv hb l bi bl;
      dec_enc = λ iv l hi bi h bl. decrypt_encrypt key iv hb bi l h bl;
      enc_dec = λ iv l hi bi h bl. encrypt_decrypt key iv hb l h bl;
    }
