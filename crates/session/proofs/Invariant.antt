-- Every record that the steps make is sound, and holds what Begin was given until it closes.
use Prim.Native.Nat.{ℕ, ◌≤◌}
use native.Mathlib.Omega.{arith}
use mathlib.Core.Bool.{Bool, true, false, cond}
use mathlib.Core.List.{List}
use mathlib.Core.Path.{◌≡◌, refl, ◌∙◌, ap}
use lib.ListN.{length}
use lib.Seq.{drop_at}
use Rattle.refusal.specs.Order.{Res, refuse, accept}
use Rattle.refusal.specs.Table.{among}
use Rattle.messages.specs.Name.{allowed, name_of, stored}
use Rattle.messages.proofs.Names.{stored_whole}
use Rattle.session.specs.Record.{step_number, closed, none_begun, begun_of, begun_with, answered, keyed, opened}
use Rattle.session.specs.Steps.{Made, level_allowed, made_begin, begin_of, open_of, two_of, four_of}
use Rattle.session.specs.Promise.{keeping, record_after}
use Rattle.session.specs.Invariant.{Sound, Holds, Reached, by_begin, by_open, by_two, by_four}
use Rattle.session.specs.declared.Asked.{Asked}
use Rattle.session.specs.declared.Record.{Record}
use Rattle.session.proofs.Role.{role_legal, role_short}
use Rattle.session.proofs.Accepted.{begin_tells, open_tells, two_tells, four_tells}

-- what holds of the record that a step was given, of a closed one, and of each that the step makes, holds of the record after it
module _ (P : Record → Type 0) where
  cond_holds : (t : Bool) (x y : Record) → P x → P y → P (cond t x y)
  cond_holds true x y a b = a
  cond_holds false x y a b = b

  pub after_step : (s : Record) (R : Res Made) → P s → P closed → ((M : Made) → R ≡ accept M → P M.next) → P (record_after s R)
  after_step s (refuse n v) a b f = cond_holds (among n keeping) s closed a b
  after_step s (accept M) a b f = f M refl

-- closed records
pub closed_sound : Sound closed
unfolding closed none_begun name_of
closed_sound =
    record {
      len = omega arith;
      legal = refl;
      past = refl;
      console = (λ h z. omega arith);
      level = (λ h. absurd (omega arith));
      lookup = (λ h. absurd (omega arith));
      system = (λ h z. omega arith);
      shut = (λ h. refl);
    }

pub closed_holds : (asked : Asked) (name : List ℕ) → Holds asked name closed
unfolding closed
closed_holds asked name = record { begun = (λ h. absurd (omega arith)) }

-- Begin
begun_sound : (asked : Asked) (n : List ℕ) → (asked.console ≡ 0 → ⊥) → level_allowed asked.level ≡ true → length n ≤ 16 → allowed n ≡ true
    → Sound (begun_with (begun_of asked (stored n)))
unfolding begun_with begun_of stored name_of
begun_sound asked n d g l h =
    record {
      len = l;
      legal = ap allowed (stored_whole n) ∙ h;
      past = drop_at n _ (length n) refl;
      console = (λ t z. d z);
      level = (λ t. role_legal asked.level g asked.lookup);
      lookup = (λ t. role_short asked.level g asked.lookup);
      system = (λ t z. omega arith);
      shut = (λ t. absurd (omega arith));
    }

begun_holds : (asked : Asked) (name : List ℕ) → Holds asked name (begun_with (begun_of asked (stored name)))
unfolding begun_with
begun_holds asked name = record { begun = (λ h. refl) }

module _ (asked : Asked) (name : List ℕ) (room : ℕ) where
  pub begin_sound : (M : Made) → begin_of asked name room ≡ accept M → Sound M.next
  unfolding made_begin
  begin_sound M e =
      let a = begin_tells asked name room M e in
      rw a.4 (begun_sound asked name a.0 a.1 a.2 a.3)

  pub begin_holds : (M : Made) → begin_of asked name room ≡ accept M → Holds asked name M.next
  unfolding made_begin
  begin_holds M e = rw (begin_tells asked name room M e).4 (begun_holds asked name)

-- a step that goes on keeps what Begin fixed
module _ (s t : Record) (u : t.begun ≡ s.begun) (b : 1 ≤ step_number s.step) where
  next_sound : 1 ≤ step_number t.step → (t.system ≡ 0 → ⊥) → Sound s → Sound t
  next_sound a d h =
      record {
        len = rw u h.len;
        legal = rw u h.legal;
        past = rw u h.past;
        console = (λ g. rw u (h.console b));
        level = (λ g. rw u (h.level b));
        lookup = (λ g. rw u (h.lookup b));
        system = (λ g. d);
        shut = (λ g. absurd (omega arith));
      }

  next_holds : (asked : Asked) (name : List ℕ) → Holds asked name s → Holds asked name t
  next_holds asked name h = record { begun = (λ g. u ∙ h.begun b) }

-- the open response
module _ (s : Record) (m rm : List ℕ) (room : ℕ) where
  pub open_sound : Sound s → Sound (record_after s (open_of s m rm room))
  unfolding answered
  open_sound h =
      after_step Sound s (open_of s m rm room) h closed_sound λ M e.
      let a = open_tells s m rm room M e in
      let b : 1 ≤ step_number s.step = omega arith in
      rw a.3 (next_sound s (answered s a.0 rm) refl b (omega arith) a.2 h)

  pub open_holds : (asked : Asked) (name : List ℕ) → Holds asked name s → Holds asked name (record_after s (open_of s m rm room))
  unfolding answered
  open_holds asked name h =
      after_step (Holds asked name) s (open_of s m rm room) h (closed_holds asked name) λ M e.
      let a = open_tells s m rm room M e in
      let b : 1 ≤ step_number s.step = omega arith in
      rw a.3 (next_holds s (answered s a.0 rm) refl b asked name h)

-- message 2
module _ (most : ℕ) (s : Record) (kg password m : List ℕ) (room : ℕ) where
  pub two_sound : Sound s → Sound (record_after s (two_of most s kg password m room))
  unfolding keyed
  two_sound h =
      after_step Sound s (two_of most s kg password m room) h closed_sound λ M e.
      let a = two_tells most s kg password m room M e in
      let b : 1 ≤ step_number s.step = omega arith in
      let d : 2 ≤ step_number s.step = omega arith in
      rw a.2 (next_sound s (keyed s a.0.guid _) refl b (omega arith) (h.system d) h)

  pub two_holds : (asked : Asked) (name : List ℕ) → Holds asked name s → Holds asked name (record_after s (two_of most s kg password m room))
  unfolding keyed
  two_holds asked name h =
      after_step (Holds asked name) s (two_of most s kg password m room) h (closed_holds asked name) λ M e.
      let a = two_tells most s kg password m room M e in
      let b : 1 ≤ step_number s.step = omega arith in
      rw a.2 (next_holds s (keyed s a.0.guid _) refl b asked name h)

-- message 4
module _ (s : Record) (m : List ℕ) where
  pub four_sound : Sound s → Sound (record_after s (four_of s m))
  unfolding opened
  four_sound h =
      after_step Sound s (four_of s m) h closed_sound λ M e.
      let a = four_tells s m M e in
      let b : 1 ≤ step_number s.step = omega arith in
      let d : 2 ≤ step_number s.step = omega arith in
      rw a.2 (next_sound s (opened s) refl b (omega arith) (h.system d) h)

  pub four_holds : (asked : Asked) (name : List ℕ) → Holds asked name s → Holds asked name (record_after s (four_of s m))
  unfolding opened
  four_holds asked name h =
      after_step (Holds asked name) s (four_of s m) h (closed_holds asked name) λ M e.
      let a = four_tells s m M e in
      let b : 1 ≤ step_number s.step = omega arith in
      rw a.2 (next_holds s (opened s) refl b asked name h)

-- so of every record that was reached
pub reached_sound : (asked : Asked) (name : List ℕ) (s : Record) → Reached asked name s → Sound s
reached_sound asked name _ (by_begin room) =
    after_step Sound closed (begin_of asked name room) closed_sound closed_sound (begin_sound asked name room)
reached_sound asked name _ (by_open s m rm room r) = open_sound s m rm room (reached_sound asked name s r)
reached_sound asked name _ (by_two most s kg password m room r) = two_sound most s kg password m room (reached_sound asked name s r)
reached_sound asked name _ (by_four s m r) = four_sound s m (reached_sound asked name s r)

pub reached_holds : (asked : Asked) (name : List ℕ) (s : Record) → Reached asked name s → Holds asked name s
reached_holds asked name _ (by_begin room) =
    let c = closed_holds asked name in
    after_step (Holds asked name) closed (begin_of asked name room) c c (begin_holds asked name room)
reached_holds asked name _ (by_open s m rm room r) = open_holds s m rm room asked name (reached_holds asked name s r)
reached_holds asked name _ (by_two most s kg password m room r) =
    two_holds most s kg password m room asked name (reached_holds asked name s r)
reached_holds asked name _ (by_four s m r) = four_holds s m asked name (reached_holds asked name s r)
