-- Which refusals each stage of a step can give: those before the message is looked at leave the record, those for the message close it.
use native.Mathlib.Omega.{arith}
use Rattle.std.proofs.lemmas.Grind.{common_steps}
use Rattle.refusal.specs.Order.{need, and_then}
use Prim.Native.Nat.{ℕ}
use mathlib.Core.Bool.{Bool, true, false, ◌||◌}
use mathlib.Core.List.{List}
use mathlib.Core.Path.{refl}
use Rattle.refusal.specs.Table.{among}
use Rattle.messages.specs.Auth.{coded}
use Rattle.messages.specs.Block.{block_of, of_type, known}
use Rattle.messages.specs.Name.{username_of}
use Rattle.messages.specs.OpenSession.{open_checked, open_fields, open_response}
use Rattle.messages.specs.Rakp.{checked, message2, message4}
use Rattle.messages.specs.Status.{common, number_if, status_number}
use Rattle.session.specs.Steps.{ready_begin, begin_of, ready_open, heard_open, ready_two, heard_two, ready_four, heard_four}
use Rattle.session.specs.declared.Asked.{Asked}
use Rattle.session.specs.declared.Record.{Record}
use Rattle.session.proofs.Stages.{Only, Quiet, Keeps, Shuts, only_accept, only_need, only_then}

-- Begin
pub begin_quiet : (asked : Asked) (name : List ℕ) (room : ℕ) → Only Quiet (begin_of asked name room)
unfolding begin_of ready_begin username_of need and_then
begin_quiet asked name room n v e = grind (arith, common_steps)

-- before the message
pub ready_open_keeps : (s : Record) (room : ℕ) → Only Keeps (ready_open s room)
unfolding ready_open need
ready_open_keeps s room n v e = grind (arith, common_steps)

pub ready_two_keeps : (most : ℕ) (s : Record) (kg password : List ℕ) (room : ℕ) → Only Keeps (ready_two most s kg password room)
unfolding ready_two need
ready_two_keeps most s kg password room n v e = grind (arith, common_steps)

pub ready_four_keeps : (s : Record) → Only Keeps (ready_four s)
unfolding ready_four need
ready_four_keeps s n v e = grind (arith, common_steps)

-- for the message
named_shuts : (t : Bool) → Shuts (number_if t)
named_shuts true = (refl, refl)
named_shuts false = (refl, refl)

status_shuts : (names : List ℕ) (b : ℕ) → Shuts (status_number names b)
unfolding status_number
status_shuts names b = named_shuts (among b common || among b names)

block_shuts : (t : ℕ) (l : List ℕ) → Only Shuts (of_type t (block_of l))
unfolding of_type block_of known coded need and_then
block_shuts t l n v e = grind (arith, common_steps)

open_shuts : (m : List ℕ) → Only Shuts (open_response m)
unfolding open_response open_checked open_fields
open_shuts m =
    only_then Shuts _ _
    (only_need Shuts _ _ _ _ (refl, refl)
    (only_need Shuts _ _ _ _ (status_shuts _ _)
    (only_need Shuts _ _ _ _ (refl, refl)
    (only_need Shuts _ _ _ _ (refl, refl)
    (only_need Shuts _ _ _ _ (refl, refl) (only_need Shuts _ _ _ _ (refl, refl) (only_accept Shuts _)))))))
    (λ _. only_then Shuts _ _ (block_shuts 0 _)
    (λ a. only_then Shuts _ _ (block_shuts 1 _)
    (λ i. only_then Shuts _ _ (block_shuts 2 _) (λ c. only_accept Shuts _))))

pub heard_open_shuts : (s : Record) (m : List ℕ) → Only Shuts (heard_open s m)
unfolding heard_open
heard_open_shuts s m =
    only_then Shuts _ _ (open_shuts m)
    (λ r.
    only_need Shuts _ _ _ _ (refl, refl)
    (only_need Shuts _ _ _ _ (refl, refl) (only_need Shuts _ _ _ _ (refl, refl) (only_accept Shuts _))))

-- the common head of messages 2 and 4, whichever id it must not find zero
head_shuts : (names : List ℕ) (fixed n v : ℕ) (m : List ℕ) → Shuts n → Only Shuts (checked names fixed n v m)
unfolding checked
head_shuts names fixed n v m h =
    only_need Shuts _ _ _ _ (refl, refl)
    (only_need Shuts _ _ _ _ (status_shuts _ _)
    (only_need Shuts _ _ _ _ (refl, refl) (only_need Shuts _ _ _ _ h (only_accept Shuts _))))

pub heard_two_shuts : (s : Record) (m : List ℕ) → Only Shuts (heard_two s m)
unfolding heard_two message2
heard_two_shuts s m =
    only_then Shuts _ _
    (only_then Shuts _ _ (head_shuts _ _ _ _ m (refl, refl)) (λ _. only_accept Shuts _))
    (λ f.
    only_need Shuts _ _ _ _ (refl, refl)
    (only_need Shuts _ _ _ _ (refl, refl) (only_need Shuts _ _ _ _ (refl, refl) (only_accept Shuts _))))

pub heard_four_shuts : (s : Record) (m : List ℕ) → Only Shuts (heard_four s m)
unfolding heard_four message4
heard_four_shuts s m =
    only_then Shuts _ _
    (only_then Shuts _ _ (head_shuts _ _ _ _ m (refl, refl)) (λ _. only_accept Shuts _))
    (λ f.
    only_need Shuts _ _ _ _ (refl, refl)
    (only_need Shuts _ _ _ _ (refl, refl) (only_need Shuts _ _ _ _ (refl, refl) (only_accept Shuts _))))
