-- Lists of bytes (docs/RULES.md, 2.1).
use Rattle.std.specs.Prelude.{ℕ, ◌<◌, List, get_or}

-- each element is below 256; past the end `get_or` gives 0, so no bound on the index is needed
abbrev pub Bytes : List ℕ → Type 0
Bytes l = (i : ℕ) → get_or l i 0 < 256
