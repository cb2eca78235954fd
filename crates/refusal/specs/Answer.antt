-- The answer of a call as an order of refusals finds it (docs/RULES.md, 1.1 and 1.4): what it was asked for, or a refusal by number and value.
use Rattle.std.specs.Prelude.{Result, Ok, Err}
use Rattle.refusal.specs.Order.{Res, refuse, accept}
use Rattle.refusal.specs.Table.{number_of, value_of}
use Rattle.refusal.specs.declared.Refusal.{Refusal}

-- an answer, where f says what is told of the value that an accepted call hands out
abbrev pub told_as : {A B : Type 0} → (A → B) → Result A Refusal → Res B
told_as f (Ok a) = accept (f a)
told_as f (Err r) = refuse (number_of r) (value_of r)

-- an answer of which nothing counts but whether it is a refusal, and which
abbrev pub told : {A : Type 0} → Result A Refusal → Res Unit
told (Ok a) = accept tt
told (Err r) = refuse (number_of r) (value_of r)
