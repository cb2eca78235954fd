-- N of a role and a name (docs/RULES.md, 5.2).
use Rattle.std.specs.Prelude.{ℕ, List, take}
use Rattle.keys.specs.Codes.{role_name}
use Rattle.keys.specs.declared.state.Named.{Named}

-- the name is the first `len` bytes, or all sixteen
abbrev pub named_of : Named → List ℕ
named_of w = role_name w.role (take w.len w.name)
