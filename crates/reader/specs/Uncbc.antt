-- The cipher as the look at the last blocks uses it (docs/RULES.md, 4.3).
use Rattle.std.specs.Prelude.{ℕ, ◌/◌, List, length}
use Rattle.cbc.specs.Cbc.{decrypt_blocks}

-- CBC decryption of whole blocks over round keys
unfoldable pub uncbc : List ℕ → List ℕ → List ℕ → List ℕ
uncbc w iv d = decrypt_blocks w iv (length d / 16) d
