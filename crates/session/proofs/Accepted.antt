-- What an accepted step tells: which tests passed, what was found, which record was made.
use Rattle.refusal.specs.Order.{need, and_then}
use native.Mathlib.Omega.{arith}
use Rattle.std.proofs.lemmas.Grind.{common_steps}
use Prim.Native.Nat.{ℕ, ◌≤◌}
use mathlib.Core.Bool.{true}
use mathlib.Core.List.{List}
use mathlib.Core.Path.{◌≡◌}
use lib.ListN.{length, drop}
use Rattle.refusal.specs.Order.{accept}
use Rattle.octets.proofs.Equal.{same_true}
use Rattle.messages.specs.Name.{allowed, longest_name, stored}
use Rattle.messages.specs.OpenSession.{Response, open_checked, open_numbers, open_fields, open_response}
use Rattle.messages.specs.Rakp.{message1, message3, fields4, message4}
use Rattle.messages.specs.declared.rakp_2.RakpMessage2.{RakpMessage2}
use Rattle.messages.proofs.Names.{taken_name}
use Rattle.session.specs.Constants.{request_size}
use Rattle.session.specs.Record.{step_number, in_step, answered, keyed, opened}
use Rattle.session.specs.Steps.{Made, level_allowed, ready_begin, made_begin, begin_of, ready_open, heard_open, one_to, made_open, open_of}
use Rattle.session.specs.Steps.{ready_two, heard_two, code_two, sik_two, code_three, three_of, made_two, proved_two, two_of, ready_four, value_four, heard_four, four_of}
use Rattle.session.specs.declared.Asked.{Asked}
use Rattle.session.specs.declared.Record.{Record}

-- Begin
pub begin_tells : (asked : Asked) (name : List ℕ) (room : ℕ) (M : Made)
    → begin_of asked name room ≡ accept M
    → (asked.console ≡ 0 → ⊥)
    × (level_allowed asked.level ≡ true)
    × (length name ≤ longest_name)
    × (allowed name ≡ true)
    × (M ≡ made_begin asked (stored name))
    × (request_size ≤ room)
unfolding begin_of ready_begin need and_then
begin_tells asked name room M e = grind (arith, common_steps, taken_name)

-- the open response
pub response_system : (m : List ℕ) (r : Response) → open_response m ≡ accept r → r.system ≡ 0 → ⊥
unfolding open_response open_checked open_fields open_numbers need and_then
response_system m r e z = grind (arith, common_steps)

pub open_tells : (s : Record) (m rm : List ℕ) (room : ℕ) (M : Made) → open_of s m rm room ≡ accept M
    → (r : Response)
    × (step_number s.step ≡ 1)
    × (r.system ≡ 0 → ⊥)
    × (M.next ≡ answered s r rm)
    × (M.bytes ≡ message1 (one_to r.system s rm))
unfolding open_of ready_open heard_open made_open in_step need and_then
open_tells s m rm room M e = grind (arith, common_steps, response_system)

-- message 2
pub two_tells : (most : ℕ) (s : Record) (kg password m : List ℕ) (room : ℕ) (M : Made) → two_of most s kg password m room ≡ accept M
    → (f : RakpMessage2)
    × (step_number s.step ≡ 2)
    × (M.next ≡ keyed s f.guid (sik_two s kg password f))
    × (M.bytes ≡ message3 (three_of s) (code_three s password f))
    × (heard_two s m ≡ accept f)
    × (drop f.code.at m ≡ code_two s password f)
unfolding two_of ready_two proved_two made_two in_step need and_then
two_tells most s kg password m room M e = grind (arith, common_steps, same_true)

-- message 4: the value was compared, and it is the one of the definitions
pub four_tells : (s : Record) (m : List ℕ) (M : Made) → four_of s m ≡ accept M
    → (step_number s.step ≡ 3) × (drop 8 m ≡ value_four s) × (M.next ≡ opened s)
unfolding four_of ready_four heard_four message4 fields4 in_step need and_then
four_tells s m M e = grind (arith, common_steps, same_true)
