-- What an expanded key stands for: the round keys of FIPS 197, 5.2, one after the other.
use Rattle.std.specs.Prelude.{ℕ, List}
use Rattle.aes.specs.declared.Aes128.{Aes128}

-- its eleven round keys one after the other
unfoldable pub keys_of : Aes128 → List ℕ
keys_of a = a.keys
