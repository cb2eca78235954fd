-- The keys of a session (docs/RULES.md, 5.1).
use Rattle.std.specs.Prelude.{ℕ, List, take}
use Rattle.sha1_hmac.specs.Hash.{hmac_sha1}
use Rattle.keys.specs.Codes.{derived}
use Rattle.keys.specs.declared.keys.Keys.{Keys}

-- K1 and K2 under HMAC-SHA1, whose constants have twenty bytes
unfoldable pub keys_of : List ℕ → Keys
keys_of sik = record { sik = sik; k1 = derived hmac_sha1 20 1 sik; k2 = derived hmac_sha1 20 2 sik }

-- the AES key: K2's first 16 bytes
abbrev pub aes_key_of : Keys → List ℕ
aes_key_of k = take 16 k.k2
