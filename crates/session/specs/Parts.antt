-- What private parts of the steps hand to one another (docs/RULES.md, 7.6).
use Rattle.std.specs.Prelude.{Err}
use Rattle.refusal.specs.declared.Refusal.{Refusal}
use Rattle.session.specs.declared.Record.{Record}
use Rattle.session.specs.declared.Stepped.{Stepped}

-- a refused step that wrote nothing
abbrev pub refused_at : Record → Refusal → Stepped
refused_at s r = record { state = s; answer = Err r; len = 0 }
