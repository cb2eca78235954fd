-- A name is taken whole or not at all: Begin's order of tests, what a refused Begin leaves, and message 1's length byte and last bytes, of
-- every record that the steps reach and of the calls themselves.
use Rattle.std.specs.Prelude.{Ok}
use Rattle.std.proofs.lemmas.Grind.{common_steps}
use Prim.Native.Nat.{ℕ, ◌≤◌, ◌<◌}
use native.Mathlib.Omega.{arith}
use mathlib.Core.Bool.{Bool, true, not, cond}
use mathlib.Core.List.{List, []}
use mathlib.Core.Logic.{◌↔◌}
use mathlib.Core.Path.{◌≡◌, sym, ◌∙◌, ap, ap₂, subst}
use lib.Dec.{eqb, leb}
use lib.ListN.{length, take}
use lib.Seq.{take-length}
use Rattle.refusal.specs.Order.{refuse, accept, need, and_then, done}
use Rattle.refusal.specs.Table.{among}
use Rattle.refusal.specs.Answer.{told}
use Rattle.refusal.proofs.Order.{done_yes, done_no}
use Rattle.octets.specs.Place.{begun}
use Rattle.octets.proofs.Place.{begun_none}
use Rattle.messages.specs.Name.{allowed, longest_name, username_of, name_of, stored}
use Rattle.messages.specs.OpenSession.{level_byte}
use Rattle.messages.specs.Rakp.{declined3}
use Rattle.messages.proofs.Names.{stored_whole}
use Rattle.session.specs.Constants.{request_size, one_size}
use Rattle.session.specs.Record.{step_number, closed, begun_of, begun_with}
use Rattle.session.specs.Steps.{Made, level_allowed, ready_begin, made_begin, begin_of, one_to, open_of, three_of}
use Rattle.session.specs.Promise.{keeping, record_after, written}
use Rattle.session.specs.Invariant.{Reached, by_begin, by_open, by_two, by_four}
use Rattle.session.specs.System.{name_in}
use Rattle.session.specs.Exchange.{sent}
use Rattle.session.specs.Named.{NamesUser}
use Rattle.session.specs.declared.Asked.{Asked}
use Rattle.session.specs.declared.Begun.{Begun}
use Rattle.session.specs.declared.Record.{Record}
use Rattle.session.proofs.Stages.{either_way}
use Rattle.session.proofs.Refusals.{begin_quiet}
use Rattle.session.proofs.Accepted.{begin_tells, open_tells}
use Rattle.session.proofs.Invariant.{reached_sound, reached_holds}
use Rattle.session.proofs.Heard.{message1-length, one_count, one_rest}
use Rattle.session.proofs.Calls.{BeginCall, OpenCall, TwoCall, FourCall, name_lent, seen_begin, seen_open, random_sixteen, made_sent}

-- a record that waits for a step or is open holds the name that Begin was given
module _ (asked : Asked) (name : List ℕ) (s : Record) (r : Reached asked name s) (h : 1 ≤ step_number s.step) where
  pub name_held : name_of s.begun.username ≡ name
  unfolding begun_of
  name_held = ap (λ (b : Begun). name_of b.username) ((reached_holds asked name s r).begun h) ∙ stored_whole name

  pub name_within : (length name ≤ longest_name) × (allowed name ≡ true)
  unfolding begun_of stored
  name_within =
      let n = ap (λ (b : Begun). b.username.len) ((reached_holds asked name s r).begun h) in
      let t = reached_sound asked name s r in
      (subst (λ (k : ℕ). k ≤ longest_name) n t.len, ap allowed (sym name_held) ∙ t.legal)

-- message 1 names the user that Begin was given
pub open_names : (asked : Asked) (name : List ℕ) (s : Record) → Reached asked name s → (m rm : List ℕ) (room : ℕ) (M : Made)
    → length rm ≡ 16 → open_of s m rm room ≡ accept M → NamesUser M.bytes name
open_names asked name s r m rm room M k e =
    let a = open_tells s m rm room M e in
    let first = one_to a.0.system s rm in
    let h : 1 ≤ step_number s.step = omega arith in
    let n = name_held asked name s r h in
    let w = name_within asked name s r h in
    subst (λ (x : List ℕ). NamesUser x name) (sym a.4)
    (record {
      short = w.0;
      legal = w.1;
      size = message1-length first k ∙ ap (λ (l : List ℕ). one_size (length l)) n;
      count = one_count first k ∙ ap length n;
      rest = one_rest first k ∙ n;
    })

-- the records that calls answer are reached
pub begin_reaches : (c : BeginCall) → Reached c.args.0 (name_lent c) c.answer.state
begin_reaches c = subst (Reached _ _) (sym c.kept.next) (by_begin (length c.args.1.1.0.now))

module _ (asked : Asked) (name : List ℕ) where
  pub open_reaches : (c : OpenCall) → Reached asked name c.args.0 → Reached asked name c.answer.state
  open_reaches c r = subst (Reached asked name) (sym c.kept.next) (by_open _ _ _ _ r)

  pub two_reaches : (c : TwoCall) → Reached asked name c.args.0 → Reached asked name c.answer.state
  two_reaches c r = subst (Reached asked name) (sym c.kept.next) (by_two _ _ _ _ _ _ r)

  pub four_reaches : (c : FourCall) → Reached asked name c.args.0 → Reached asked name c.answer.state
  four_reaches c r = subst (Reached asked name) (sym c.kept.next) (by_four _ _ r)

  pub message_1_names : (c : OpenCall) → Reached asked name c.args.0 → c.answer.answer ≡ Ok tt → NamesUser (sent (seen_open c)) name
  message_1_names c r e =
      let a = done_yes _ (sym c.kept.answer ∙ ap told e) in
      subst (λ (x : List ℕ). NamesUser x name) (sym (made_sent _ a.0 c.args.0 (seen_open c) c.kept a.1))
      (open_names asked name c.args.0 r _ _ _ a.0 (random_sixteen c) a.1)

-- from what Begin was given to message 1
pub begin_to_message_1 : (b : BeginCall) (c : OpenCall) → c.args.0 ≡ b.answer.state → c.answer.answer ≡ Ok tt
    → NamesUser (sent (seen_open c)) (name_lent b)
begin_to_message_1 b c e d = message_1_names _ _ c (subst (Reached _ _) (sym e) (begin_reaches b)) d

-- a system that hears one name in two messages hears one user
pub name_heard : (one name : List ℕ) → NamesUser one name → name_in one ≡ name
name_heard one name n = ap₂ take n.count n.rest ∙ take-length name

pub users_apart : (asked asked₂ : Asked) (name name₂ : List ℕ) (c d : OpenCall)
    → Reached asked name c.args.0 → Reached asked₂ name₂ d.args.0
    → c.answer.answer ≡ Ok tt → d.answer.answer ≡ Ok tt → name_in (sent (seen_open c)) ≡ name_in (sent (seen_open d)) → name ≡ name₂
users_apart asked asked₂ name name₂ c d r q e f g =
    sym (name_heard _ name (message_1_names asked name c r e)) ∙ g ∙ name_heard _ name₂ (message_1_names asked₂ name₂ d q f)

-- Begin's five tests, as they stand one behind the other
five_tests : {A B : Type 0} (a b c d e : Bool) (v : ℕ) (x : A) (f : A → B)
    → done (and_then (need {A = Unit {0}} a 20 0 (need b 19 v (accept tt))) (λ _.
    and_then (need c 40 0 (need d 34 0 (accept x))) (λ y. need e 15 0 (accept (f y)))))
    ≡ need a 20 0 (need b 19 v (need c 40 0 (need d 34 0 (need e 15 0 (accept tt)))))
unfolding need and_then
five_tests a b c d e v x f = grind (arith, common_steps)

module _ (c : BeginCall) where
  pub begin_order : told c.answer.answer
      ≡ need (not (eqb c.args.0.console 0)) 20 0
      (need (level_allowed c.args.0.level) 19 (level_byte c.args.0.level)
      (need (leb (length (name_lent c)) longest_name) 40 0
      (need (allowed (name_lent c)) 34 0
      (need (leb request_size (length (seen_begin c).lent)) 15 0
      (accept tt)))))
  unfolding begin_of ready_begin username_of
  begin_order = c.kept.answer ∙ five_tests _ _ _ _ _ _ _ _

  pub begin_too_long : (told c.answer.answer ≡ refuse 40 0)
      ↔ ((c.args.0.console ≡ 0 → ⊥) × (level_allowed c.args.0.level ≡ true) × (longest_name < length (name_lent c)))
  unfolding need
  begin_too_long = let o = begin_order in ((λ e. grind (arith, common_steps)), (λ h. grind (arith, common_steps)))

  -- a refused Begin answers a closed record and writes nothing
  pub begin_refused : (n v : ℕ) → told c.answer.answer ≡ refuse n v
      → (c.answer.state ≡ closed) × (c.answer.len ≡ 0) × ((seen_begin c).left ≡ (seen_begin c).lent)
  begin_refused n v e =
      let f = done_no _ n v (sym c.kept.answer ∙ e) in
      let w = ap (written closed) f ∙ ap (λ (t : Bool). cond t (declined3 (three_of closed)) []) (begin_quiet _ _ _ n v f) in (
        c.kept.next ∙ ap (record_after closed) f ∙ either_way (among n keeping) closed,
        c.kept.len ∙ ap length w,
        c.kept.buffer ∙ ap (λ (x : List ℕ). begun x (seen_begin c).lent) w ∙ begun_none (seen_begin c).lent,
      )

  -- what an accepted one fixes is the whole name
  pub begin_whole : c.answer.answer ≡ Ok tt → c.answer.state ≡ begun_with (begun_of c.args.0 (stored (name_lent c)))
  unfolding made_begin
  begin_whole e =
      let a = done_yes _ (sym c.kept.answer ∙ ap told e) in
      c.kept.next ∙ ap (record_after closed) a.1 ∙ ap (λ (M : Made). M.next) (begin_tells _ _ _ _ a.1).4
