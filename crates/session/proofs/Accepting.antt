-- What is enough for a step to accept: its tests, as equations.
use native.Mathlib.Omega.{arith}
use Rattle.std.proofs.lemmas.Grind.{common_steps}
use Prim.Native.Nat.{ℕ, ◌≤◌}
use mathlib.Core.Bool.{true}
use mathlib.Core.List.{List, []}
use mathlib.Core.Logic.{◌⊎◌}
use mathlib.Core.Path.{◌≡◌, sym, ◌∙◌, ap}
use lib.ListN.{length, drop}
use Rattle.refusal.specs.Order.{refuse, accept, need, and_then}
use Rattle.octets.specs.Equal.{same}
use Rattle.octets.proofs.Equal.{same_self, same_true}
use Rattle.messages.specs.Name.{allowed, longest_name, username_of, stored}
use Rattle.messages.specs.OpenSession.{Response, open_response}
use Rattle.messages.specs.Rakp.{message2, message4}
use Rattle.messages.specs.declared.rakp_2.RakpMessage2.{RakpMessage2}
use Rattle.messages.specs.declared.rakp_4.RakpMessage4.{RakpMessage4}
use Rattle.session.specs.Constants.{open_tag, tag1, tag3, kg_size, code_size, request_size, one_size, three_size}
use Rattle.session.specs.Record.{step_number, in_step, opened}
use Rattle.session.specs.Steps.{level_allowed, ready_begin, made_begin, begin_of, ready_open, carried, heard_open, made_open, open_of}
use Rattle.session.specs.Steps.{ready_two, heard_two, code_two, made_two, proved_two, two_of, ready_four, value_four, heard_four, four_of}
use Rattle.session.specs.declared.Asked.{Asked}
use Rattle.session.specs.declared.Record.{Record}

-- two equal runs compare as the same, and others do not
pub same_of : (l m : List ℕ) → l ≡ m → same l m ≡ true
same_of l m e = ap (same l) (sym e) ∙ same_self l

pub begin_accepts : (asked : Asked) (name : List ℕ) (room : ℕ) → (asked.console ≡ 0 → ⊥) → level_allowed asked.level ≡ true
    → length name ≤ longest_name → allowed name ≡ true → request_size ≤ room → begin_of asked name room ≡ accept (made_begin asked (stored name))
unfolding begin_of ready_begin username_of need and_then
begin_accepts asked name room d l n a b = grind (arith, common_steps)

pub is_in_step : (s : Record) (k : ℕ) → step_number s.step ≡ k → s.begun.username.len ≤ 16 → in_step s k ≡ true
unfolding in_step
is_in_step s k e h = grind (arith, common_steps)

pub are_carried : (r : Response) → r.authentication ≡ 1 → r.integrity ≤ 1 → r.confidentiality ≤ 1 → carried r ≡ true
unfolding carried
are_carried r a i c = grind (arith, common_steps)

pub open_accepts : (s : Record) (m rm : List ℕ) (room : ℕ) (r : Response) → in_step s 1 ≡ true → one_size s.begun.username.len ≤ room
    → open_response m ≡ accept r → r.tag ≡ open_tag → r.console ≡ s.begun.console → carried r ≡ true
    → open_of s m rm room ≡ accept (made_open s rm r)
unfolding open_of ready_open heard_open need and_then
open_accepts s m rm room r a b e t i c = grind (arith, common_steps)

pub two_accepts : (most : ℕ) (s : Record) (kg password m : List ℕ) (room : ℕ) (f : RakpMessage2) → in_step s 2 ≡ true
    → (length kg ≡ 0) ⊎ (length kg ≡ kg_size) → length password ≤ most → three_size ≤ room → message2 m ≡ accept f → f.tag ≡ tag1
    → f.console ≡ s.begun.console → f.code.len ≡ code_size → drop f.code.at m ≡ code_two s password f
    → two_of most s kg password m room ≡ accept (made_two s kg password f)
unfolding two_of ready_two heard_two proved_two need and_then
two_accepts most s kg password m room f a k p b e t i n c = grind (arith, common_steps, same_of)

pub four_accepts : (s : Record) (m : List ℕ) (f : RakpMessage4) (a : in_step s 3 ≡ true) (e : message4 m ≡ accept f) (t : f.tag ≡ tag3)
    (i : f.id ≡ s.begun.console) → drop f.value.at m ≡ value_four s → four_of s m ≡ accept (record { next = opened s; bytes = [] })
unfolding four_of ready_four heard_four need and_then
four_accepts s m f a e t i v = grind (arith, common_steps, same_of)

pub four_refuses : (s : Record) (m : List ℕ) (f : RakpMessage4) (a : in_step s 3 ≡ true) (e : message4 m ≡ accept f) (t : f.tag ≡ tag3)
    (i : f.id ≡ s.begun.console) → (drop f.value.at m ≡ value_four s → ⊥) → four_of s m ≡ refuse 32 0
unfolding four_of ready_four heard_four need and_then
four_refuses s m f a e t i v = grind (arith, common_steps, same_true)
