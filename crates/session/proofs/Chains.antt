-- What is known where the tests of a stage passed.
use Rattle.std.proofs.lemmas.Grind.{common_steps}
use Prim.Native.Nat.{ℕ, ◌≤◌}
use native.Mathlib.Omega.{arith}
use mathlib.Core.Bool.{true, false}
use mathlib.Core.List.{List}
use mathlib.Core.Path.{◌≡◌}
use lib.ListN.{length}
use Rattle.refusal.specs.Order.{refuse, accept, need, and_then}
use Rattle.messages.specs.Rakp.{message2}
use Rattle.messages.specs.declared.rakp_2.RakpMessage2.{RakpMessage2}
use Rattle.session.specs.Constants.{open_tag, kg_size, one_size, three_size}
use lib.Dec.{eqb}
use Rattle.messages.specs.OpenSession.{Response, open_response}
use Rattle.session.specs.declared.Agreed.{Agreed}
use Rattle.session.specs.Record.{in_step, agreed_of}
use Rattle.session.specs.Steps.{level_allowed, ready_begin, ready_open, carried, heard_open, ready_two, heard_two, ready_four}
use Rattle.session.specs.declared.Asked.{Asked}
use Rattle.session.specs.declared.Record.{Record}

pub in_len : (s : Record) (k : ℕ) → in_step s k ≡ true → s.begun.username.len ≤ 16
unfolding in_step
in_len s k e = grind (arith, common_steps)

-- before anything is written: what is known of the level
pub begin_known : (asked : Asked) → ready_begin asked ≡ accept tt → level_allowed asked.level ≡ true
unfolding ready_begin need
begin_known asked e = grind (arith, common_steps)

-- before the open response is looked at
pub open_known : (s : Record) (room : ℕ) → ready_open s room ≡ accept tt
    → (s.begun.username.len ≤ 16) × (one_size s.begun.username.len ≤ room)
unfolding ready_open in_step need
open_known s room e = grind (arith, common_steps)

-- where an algorithm is not carried
pub not_carried : (s : Record) (m : List ℕ) (r : Response) (n v : ℕ) → accept r ≡ open_response m
    → need (eqb r.tag open_tag) 27 0 (need (eqb r.console s.begun.console) 28 0 (accept (tt {0}))) ≡ accept (tt {0})
    → refuse n v ≡ need (carried r) 29 0 (accept (agreed_of r))
    → refuse n v ≡ and_then {B = Response × Agreed} (heard_open s m) (λ r. accept (r, agreed_of r))
unfolding heard_open need and_then
not_carried s m r n v a b e = grind (arith, common_steps)

-- before message 2 is
pub two_known : (most : ℕ) (s : Record) (kg password : List ℕ) (room : ℕ) → ready_two most s kg password room ≡ accept tt
    → (length kg ≤ kg_size) × (length password ≤ most) × (three_size ≤ room)
unfolding ready_two need
two_known most s kg password room e = grind (arith, common_steps)

-- message 2, where it was heard
pub two_found : (s : Record) (m : List ℕ) (f : RakpMessage2) → heard_two s m ≡ accept f → message2 m ≡ accept f
unfolding heard_two need and_then
two_found s m f e = grind (arith, common_steps)

-- message 4's step
pub four33 : (s : Record) → in_step s 3 ≡ false → ready_four s ≡ refuse 33 0
unfolding ready_four need
four33 s e = grind (arith, common_steps)

pub four_ready : (s : Record) → in_step s 3 ≡ true → ready_four s ≡ accept tt
unfolding ready_four need
four_ready s e = grind (arith, common_steps)
