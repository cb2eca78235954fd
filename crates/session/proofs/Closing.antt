-- Another value in message 4 closes the record, whichever test of the message fails, and never opens a session.
use Prim.Native.Nat.{ℕ}
use mathlib.Core.Bool.{Bool, true, cond}
use mathlib.Core.List.{List, []}
use mathlib.Core.Path.{◌≡◌, refl, ◌∙◌, ap}
use lib.ListN.{drop}
use native.Mathlib.Omega.{arith}
use Rattle.refusal.specs.Order.{Res, refuse, accept, and_then}
use Rattle.refusal.proofs.Order.{pass, then_accept}
use Rattle.session.specs.Record.{step_number, in_step, closed, opened}
use Rattle.session.specs.Steps.{Made, ready_four, heard_four, value_four, four_of}
use Rattle.session.specs.Promise.{record_after}
use Rattle.session.specs.declared.Record.{Record}
use Rattle.session.proofs.Stages.{Only, Shuts, only_accept, only_then}
use Rattle.session.proofs.Refusals.{heard_four_shuts}
use Rattle.session.proofs.Accepted.{four_tells}
use Rattle.session.proofs.Invariant.{after_step}

-- a step whose refusals close
pub shut_record : (s : Record) (R : Res Made) → Only Shuts R → ((M : Made) → R ≡ accept M → ⊥) → record_after s R ≡ closed
shut_record s (refuse n v) h g = ap (λ (t : Bool). cond t s closed) (h n v refl).0
shut_record s (accept M) h g = absurd (g M refl)

module _ (s : Record) (m : List ℕ) (d : drop 8 m ≡ value_four s → ⊥) where
  -- another value never opens a session
  pub other_not_open : step_number (record_after s (four_of s m)).step ≡ 4 → step_number s.step ≡ 4
  unfolding closed
  other_not_open =
      after_step (λ t. step_number t.step ≡ 4 → step_number s.step ≡ 4) s (four_of s m) (λ e. e) (λ e. absurd (omega arith))
      (λ M e. absurd (d (four_tells s m M e).1))

  -- and where message 4 is waited for, it closes the record
  pub other_closes : in_step s 3 ≡ true → record_after s (four_of s m) ≡ closed
  unfolding four_of ready_four
  other_closes h =
      let e : ready_four s ≡ accept tt = pass _ _ _ _ h refl in
      let f : four_of s m ≡ and_then (heard_four s m) (λ _. accept (record { next = opened s; bytes = [] })) = then_accept _ _ tt e in
      ap (record_after s) f
      ∙ shut_record s _ (only_then Shuts _ _ (heard_four_shuts s m) (λ _. only_accept Shuts _)) (λ M g. d (four_tells s m M (f ∙ g)).1)
