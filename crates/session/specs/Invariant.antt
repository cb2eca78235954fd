-- What holds of every record that the steps make (docs/RULES.md, 7.1, 7.2, 7.6, 7.14 and 7.15). Proved of them, and asked for by no call.
use Rattle.std.specs.Prelude.{ℕ, ◌-◌, ◌%◌, ◌≤◌, ◌<◌, true, List, ◌≡◌, drop, replicate}
use Rattle.messages.specs.Auth.{is_level}
use Rattle.messages.specs.Name.{allowed, name_of, stored}
use Rattle.session.specs.Record.{step_number, closed, begun_of}
use Rattle.session.specs.Steps.{begin_of, open_of, two_of, four_of}
use Rattle.session.specs.Promise.{record_after}
use Rattle.session.specs.declared.Asked.{Asked}
use Rattle.session.specs.declared.Record.{Record}

-- the name has at most sixteen bytes, each ASCII and not zero, and zeros stand past it; where a step is waited for or the record is open, the
-- console's id is not zero and the role is a level of 1 to 5, with bit 4 or without; once its response was taken, the system's id is not zero
-- either; and a closed record is all zeros
pub record Sound (s : Record) : Type 0 where
  pub len : s.begun.username.len ≤ 16
  pub legal : allowed (name_of s.begun.username) ≡ true
  pub past : drop s.begun.username.len s.begun.username.bytes ≡ replicate (16 - s.begun.username.len) 0
  pub console : 1 ≤ step_number s.step → s.begun.console ≡ 0 → ⊥
  pub level : 1 ≤ step_number s.step → is_level (s.begun.role % 16) ≡ true
  pub lookup : 1 ≤ step_number s.step → s.begun.role < 32
  pub system : 2 ≤ step_number s.step → s.system ≡ 0 → ⊥
  pub shut : step_number s.step ≡ 0 → s ≡ closed

-- what Begin fixed, the console's id, the role and the name, is what it was given, until the record closes
pub record Holds (asked : Asked) (name : List ℕ) (s : Record) : Type 0 where
  pub begun : 1 ≤ step_number s.step → s.begun ≡ begun_of asked (stored name)

-- the records that the steps make, in any order, after a Begin with this request and this name
pub data Reached (asked : Asked) (name : List ℕ) : Record → Type 0 where
  by_begin : (room : ℕ) → Reached asked name (record_after closed (begin_of asked name room))
  by_open : (s : Record) (m rm : List ℕ) (room : ℕ) → Reached asked name s → Reached asked name (record_after s (open_of s m rm room))
  by_two : (most : ℕ) (s : Record) (kg password m : List ℕ) (room : ℕ) → Reached asked name s
      → Reached asked name (record_after s (two_of most s kg password m room))
  by_four : (s : Record) (m : List ℕ) → Reached asked name s → Reached asked name (record_after s (four_of s m))
