-- The rights that are asked for are those that Begin was given: the role of every record that the steps reach, of message 1 and of the three
-- values that are computed over N, and the request's own level byte.
use Rattle.std.specs.Prelude.{Ok}
use Prim.Native.Nat.{ℕ, ◌≤◌}
use native.Mathlib.Omega.{arith}
use mathlib.Core.List.{List}
use mathlib.Core.Path.{◌≡◌, sym, ◌∙◌, ap, ap₂, subst}
use lib.ListN.{length, drop}
use Rattle.refusal.specs.Order.{accept}
use Rattle.refusal.specs.Answer.{told}
use Rattle.refusal.proofs.Order.{done_yes}
use Rattle.sha1_hmac.specs.Hash.{hmac_sha1}
use Rattle.keys.specs.Chosen.{key_of}
use Rattle.keys.specs.Codes.{role_name, code2, sik_of, code3}
use Rattle.keys.specs.Keys.{keys_of}
use Rattle.messages.specs.OpenSession.{level_byte}
use Rattle.messages.specs.Rakp.{fields2, message3}
use Rattle.messages.specs.declared.rakp_2.RakpMessage2.{RakpMessage2}
use Rattle.messages.proofs.Answered.{found_2}
use Rattle.session.specs.Role.{role_asked, who_asked}
use Rattle.session.specs.Record.{step_number, closed, begun_of, keyed}
use Rattle.session.specs.Steps.{Made, made_begin, one_to, open_of, who, code_two, sik_two, code_three, two_of}
use Rattle.session.specs.Invariant.{Reached}
use Rattle.session.specs.System.{level_in, role_in}
use Rattle.session.specs.Exchange.{sent}
use Rattle.session.specs.Rights.{Covers}
use Rattle.session.specs.declared.Asked.{Asked}
use Rattle.session.specs.declared.Begun.{Begun}
use Rattle.session.specs.declared.Record.{Record}
use Rattle.session.proofs.Chains.{two_found}
use Rattle.session.proofs.Accepted.{begin_tells, open_tells, two_tells}
use Rattle.session.proofs.Invariant.{reached_holds}
use Rattle.session.proofs.Heard.{request_level, one_role}
use Rattle.session.proofs.Calls.{BeginCall, OpenCall, TwoCall, seen_begin, seen_open, seen_two, random_sixteen, made_next, made_sent}
use Rattle.session.proofs.Named.{name_held, begin_reaches}

-- a record that waits for a step or is open holds the id and the role that Begin was given, and N is made of that role
module _ (asked : Asked) (name : List ℕ) (s : Record) (r : Reached asked name s) (h : 1 ≤ step_number s.step) where
  console_held : s.begun.console ≡ asked.console
  unfolding begun_of
  console_held = ap (λ (b : Begun). b.console) ((reached_holds asked name s r).begun h)

  pub role_held : s.begun.role ≡ role_asked asked
  unfolding begun_of
  role_held = ap (λ (b : Begun). b.role) ((reached_holds asked name s r).begun h)

  pub who_held : who s ≡ who_asked asked name
  unfolding who
  who_held = ap₂ role_name role_held (name_held asked name s r h)

  -- so are message 2's code, the SIK and message 3's code
  module _ (password : List ℕ) (f : RakpMessage2) where
    code_2_held : code_two s password f
        ≡ code2 hmac_sha1 password asked.console s.system s.rm f.random f.guid (who_asked asked name)
    unfolding code_two
    code_2_held =
        ap₂ (λ (c : ℕ) (n : List ℕ). code2 hmac_sha1 password c s.system s.rm f.random f.guid n) console_held who_held

    sik_held : (kg : List ℕ) → sik_two s kg password f ≡ sik_of hmac_sha1 (key_of kg password) s.rm f.random (who_asked asked name)
    unfolding sik_two
    sik_held kg = ap (sik_of hmac_sha1 (key_of kg password) s.rm f.random) who_held

    code_3_held : code_three s password f ≡ code3 hmac_sha1 password f.random asked.console (who_asked asked name)
    unfolding code_three
    code_3_held = ap₂ (λ (c : ℕ) (n : List ℕ). code3 hmac_sha1 password f.random c n) console_held who_held

-- message 1 asks for the role that Begin was given
pub open_asks : (asked : Asked) (name : List ℕ) (s : Record) → Reached asked name s → (m rm : List ℕ) (room : ℕ) (M : Made)
    → length rm ≡ 16 → open_of s m rm room ≡ accept M → role_in M.bytes ≡ role_asked asked
open_asks asked name s r m rm room M k e =
    let a = open_tells s m rm room M e in
    let h : 1 ≤ step_number s.step = omega arith in
    ap role_in a.4 ∙ one_role (one_to a.0.system s rm) k ∙ role_held asked name s r h

pub message_1_asks : (asked : Asked) (name : List ℕ) (c : OpenCall) → Reached asked name c.args.0 → c.answer.answer ≡ Ok tt
    → role_in (sent (seen_open c)) ≡ role_asked asked
message_1_asks asked name c r e =
    let a = done_yes _ (sym c.kept.answer ∙ ap told e) in
    ap role_in (made_sent _ a.0 c.args.0 (seen_open c) c.kept a.1)
    ∙ open_asks asked name c.args.0 r _ _ _ a.0 (random_sixteen c) a.1

-- from what Begin was given to message 1
pub begin_to_role : (b : BeginCall) (c : OpenCall) → c.args.0 ≡ b.answer.state → c.answer.answer ≡ Ok tt
    → role_in (sent (seen_open c)) ≡ role_asked b.args.0
begin_to_role b c e d = message_1_asks _ _ c (subst (Reached _ _) (sym e) (begin_reaches b)) d

-- what is taken for message 2's code, and what is made of it, is over N as Begin was given it
pub two_covers : (asked : Asked) (name : List ℕ) (s : Record) → Reached asked name s → (most : ℕ) (kg password m : List ℕ) (room : ℕ) (M : Made)
    → two_of most s kg password m room ≡ accept M → Covers asked name s kg password m M.bytes M.next
unfolding fields2 message3 keyed
two_covers asked name s r most kg password m room M e =
    let a = two_tells most s kg password m room M e in
    let h : 1 ≤ step_number s.step = omega arith in
    let g = (found_2 m a.0 (two_found s m a.0 a.4)).0 in
    record {
      code_2 = sym (ap (λ (x : RakpMessage2). drop x.code.at m) g)
          ∙ a.5
          ∙ ap (code_two s password) g
          ∙ code_2_held asked name s r h password (fields2 m);
      code_3 = ap (drop 8) a.3 ∙ ap (code_three s password) g ∙ code_3_held asked name s r h password (fields2 m);
      keys = ap (λ (x : Record). x.keys) a.2
          ∙ ap keys_of (ap (sik_two s kg password) g ∙ sik_held asked name s r h password (fields2 m) kg);
    }

pub message_2_covers : (asked : Asked) (name : List ℕ) (c : TwoCall) → Reached asked name c.args.0 → c.answer.answer ≡ Ok tt
    → Covers asked name c.args.0 c.args.1.0.now c.args.1.1.0.now c.args.1.1.1.0.now (sent (seen_two c)) c.answer.state
message_2_covers asked name c r e =
    let a = done_yes _ (sym c.kept.answer ∙ ap told e) in
    let t = made_sent _ a.0 c.args.0 (seen_two c) c.kept a.1 in
    let n = made_next _ a.0 c.args.0 (seen_two c) c.kept a.1 in
    rw (t, n) (two_covers asked name c.args.0 r _ _ _ _ _ a.0 a.1)

-- the request's own byte is the level, or 0 where none was asked for, however the user is looked up
pub request_asks : (c : BeginCall) → c.answer.answer ≡ Ok tt → level_in (sent (seen_begin c)) ≡ level_byte c.args.0.level
unfolding made_begin
request_asks c e =
    let a = done_yes _ (sym c.kept.answer ∙ ap told e) in
    ap level_in (made_sent _ a.0 closed (seen_begin c) c.kept a.1 ∙ ap (λ (M : Made). M.bytes) (begin_tells _ _ _ _ a.1).4)
    ∙ request_level c.args.0
