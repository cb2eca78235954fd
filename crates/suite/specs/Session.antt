-- The suite of a session, by its algorithms and keys (docs/RULES.md, 6.3, 6.4 and 6.9).
use Rattle.std.specs.Prelude.{take}
use Rattle.sha1_hmac.specs.Hash.{hmac_sha1}
use Rattle.cbc.specs.Cbc.{cbc_encrypt, cbc_decrypt}
use Rattle.keys.specs.Keys.{aes_key_of}
use Rattle.suite.specs.Types.{encrypts, carries_code, code_length}
use Rattle.framing.specs.Suite.{Suite}
use Rattle.suite.specs.Code.{mac_blocks}
use Rattle.suite.specs.declared.SubState.{SubState}

abbrev pub suite_of : SubState → Suite
suite_of s = record {
  aes = encrypts s.confidentiality;
  auth = carries_code s.integrity;
  m = code_length s.integrity;
  mac = λ l. take (code_length s.integrity) (hmac_sha1 s.keys.k1 l);
  blocks = mac_blocks;
  enc = cbc_encrypt (aes_key_of s.keys);
  dec = cbc_decrypt (aes_key_of s.keys);
}
