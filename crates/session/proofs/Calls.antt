-- The whole exchange, of the calls themselves: whatever `begin`, `open_response`, `message_2`, `message_4` and `sub_state` answer and
-- leave, it is an exchange that went well, or one that is refused where message 4 has another value. Of the calls nothing is used but
-- their contracts and what the types of their arguments say.
use Prim.Native.Nat.{ℕ, ◌^◌, ◌<◌}
use Rattle.std.specs.Prelude.{Result, Ok}
use native.Mathlib.Omega.{arith}
use mathlib.Core.Bool.{true}
use mathlib.Core.List.{List, [], ◌++◌}
use mathlib.Core.Path.{◌≡◌, refl, sym, ◌∙◌, ap, ap₂}
use lib.ListN.{length, take}
use Rattle.refusal.specs.Call.{Call}
use Rattle.refusal.specs.Order.{Res, refuse, accept, done}
use Rattle.refusal.specs.Answer.{told}
use Rattle.refusal.specs.declared.Refusal.{Refusal}
use Rattle.refusal.proofs.Order.{pass, need_no}
use Rattle.refusal.proofs.Answer.{answer_one, outcome_one}
use Rattle.suite.specs.declared.SubState.{SubState}
use Rattle.octets.specs.Place.{begun}
use Rattle.octets.proofs.Place.{begun_take}
use Rattle.messages.specs.Name.{stored}
use Rattle.session.specs.Constants.{longest_password}
use Rattle.session.specs.Record.{in_step, closed, opened}
use Rattle.session.specs.Steps.{Made, made_begin, begin_of, open_of, two_of, four_of}
use Rattle.session.specs.Promise.{record_after, written, StepPromise, SessionPromise, session_with}
use Rattle.session.specs.System.{System, head_to, response, second, value_in, fourth}
use Rattle.session.specs.Exchange.{Seen, sent, Suits, Wrote, Hears, Opened, Exchange, Refuses}
use Rattle.session.specs.declared.Asked.{Asked}
use Rattle.session.specs.declared.Record.{Record}
use Rattle.session.proofs.Stages.{told_refused}
use Rattle.session.proofs.Accepting.{is_in_step, begin_accepts}
use Rattle.session.proofs.Exchange.{StepsAgree, exchanged}
use Rattle.session.proofs.request.begin.Kinds as begin-kinds
use Rattle.session.proofs.request.begin.Reads as begin-reads
use Rattle.session.proofs.response.open_response.Kinds as open-kinds
use Rattle.session.proofs.response.open_response.Reads as open-reads
use Rattle.session.proofs.keying.message_2.Kinds as two-kinds
use Rattle.session.proofs.keying.message_2.Reads as two-reads
use Rattle.session.proofs.checking.message_4.Kinds as four-kinds
use Rattle.session.proofs.checking.message_4.Reads as four-reads
use Rattle.session.proofs.state.sub_state.Kinds as session-kinds
use Rattle.session.proofs.state.sub_state.Reads as session-reads

-- the four steps' calls, and how those that write are seen from outside
abbrev pub BeginCall : Type 0
BeginCall = Call 2 begin-kinds.ps begin-kinds.r begin-reads.Post

abbrev pub OpenCall : Type 0
OpenCall = Call 2 open-kinds.ps open-kinds.r open-reads.Post

abbrev pub TwoCall : Type 0
TwoCall = Call 3 two-kinds.ps two-kinds.r two-reads.Post

abbrev pub FourCall : Type 0
FourCall = Call 1 four-kinds.ps four-kinds.r four-reads.Post

-- the name that Begin was lent
abbrev pub name_lent : BeginCall → List ℕ
name_lent c = c.args.1.0.now

abbrev pub seen_begin : BeginCall → Seen
seen_begin c = record { lent = c.args.1.1.0.now; answer = c.answer; left = c.exit.1.1.0.now }

abbrev pub seen_open : OpenCall → Seen
seen_open c = record { lent = c.args.1.1.1.0.now; answer = c.answer; left = c.exit.1.1.1.0.now }

abbrev pub seen_two : TwoCall → Seen
seen_two c = record { lent = c.args.1.1.1.1.0.now; answer = c.answer; left = c.exit.1.1.1.1.0.now }

-- an exchange with the system y up to message 3: each call but the first is given the record that the one before it answered, and what
-- the system sends upon the bytes that were written; the password and the Kg are the system's
pub record Calls (y : System) : Type 0 where
  pub begin : BeginCall
  pub opening : OpenCall
  pub message_2 : TwoCall
  pub open_record : opening.args.0 ≡ begin.answer.state
  pub open_message : opening.args.1.0.now ≡ response y (sent (seen_begin begin))
  pub two_record : message_2.args.0 ≡ opening.answer.state
  pub two_kg : message_2.args.1.0.now ≡ y.kg
  pub two_password : message_2.args.1.1.0.now ≡ y.password
  pub two_message : message_2.args.1.1.1.0.now ≡ second y (sent (seen_begin begin)) (sent (seen_open opening))

-- then `message_4`, given the record s and the message m, and `sub_state`, given the record that it answered
pub record Ends (s : Record) (m : List ℕ) : Type 0 where
  pub message_4 : FourCall
  pub sub_state : Call 0 session-kinds.ps session-kinds.r session-reads.Post
  pub four_record : message_4.args.0 ≡ s
  pub four_message : message_4.args.1.0.now ≡ m
  pub session_record : sub_state.args.0 ≡ message_4.answer.state

-- what the types of the arguments say
console_small : (c : BeginCall) → c.args.0.console < 2 ^ 32
console_small c = let g = c.typed in omega arith

pub random_sixteen : (c : OpenCall) → length c.args.1.1.0 ≡ 16
random_sixteen c = let g = c.typed in omega arith

-- a call that keeps its promise, of a step that makes M
module _ (R : Res Made) (M : Made) (s : Record) (c : Seen) (p : StepPromise R s c.lent c.answer c.left) (e : R ≡ accept M) where
  made : StepPromise (accept M) s c.lent c.answer c.left
  made = rw e at p

  pub made_next : c.answer.state ≡ M.next
  made_next = made.next

  pub made_sent : sent c ≡ M.bytes
  made_sent = ap₂ take made.len made.buffer ∙ begun_take M.bytes c.lent _ refl

  made_wrote : Wrote c
  made_wrote =
      record {
        done = outcome_one c.answer.answer (Ok tt) made.answer;
        len = ap length made_sent ∙ sym made.len;
        rest = made.buffer ∙ ap (λ (x : List ℕ). begun x c.lent) (sym made_sent);
      }

-- what `sub_state` hands out of an open record, and of a closed one
session_open : (s t : Record) (e : Result SubState Refusal) → s ≡ t → SessionPromise s e → in_step t 4 ≡ true
    → e ≡ Ok (session_with t.keys t.agreed)
session_open s t e q p h =
    let g : in_step s 4 ≡ true = ap (λ (u : Record). in_step u 4) q ∙ h in
    answer_one (λ z. z) (λ _ _ f. f) e (Ok (session_with t.keys t.agreed))
    (p.answer ∙ pass _ _ _ _ g (ap (λ (u : Record). accept (session_with u.keys u.agreed)) q))

session_none : (s : Record) (e : Result SubState Refusal) → s ≡ closed → SessionPromise s e → told e ≡ refuse 33 0
unfolding in_step closed
session_none s e q p = told_refused (λ z. z) e 33 0 (p.answer ∙ need_no _ _ _ _ (ap (λ (u : Record). in_step u 4) q))

-- equals for equals: message 2's step, the system's message 4, what it makes of the messages, what it has of a record
two_same : {s t : Record} {k l p q m n : List ℕ} (room : ℕ) → s ≡ t → k ≡ l → p ≡ q → m ≡ n
    → two_of longest_password s k p m room ≡ two_of longest_password t l q n room
two_same room a b c d i = two_of longest_password (a i) (b i) (c i) (d i) room

module _ (y : System) {r u o v t w : List ℕ} (a : r ≡ u) (b : o ≡ v) (c : t ≡ w) where
  fourth-same : fourth y r o t ≡ fourth y u v w
  fourth-same i = fourth y (a i) (b i) (c i)

  hears_same : (asked : Asked) (n rm : List ℕ) → Hears y asked n rm u v w → Hears y asked n rm r o t
  hears_same asked n rm h = rw (a, b, c) h

  opened-same : {s z : Record} → s ≡ z → Opened y v z → Opened y o s
  opened-same e h = rw (b, e) h

-- what the console's calls were given, and what is seen of them
module _ (y : System) (c : Calls y) where
  abbrev pub asked : Asked
  asked = c.begin.args.0

  abbrev pub name : List ℕ
  name = name_lent c.begin

  abbrev pub random : List ℕ
  random = c.opening.args.1.1.0

  abbrev pub request : Seen
  request = seen_begin c.begin

  abbrev pub one : Seen
  one = seen_open c.opening

  abbrev pub three : Seen
  three = seen_two c.message_2

  -- what Begin makes, and what the steps then make
  abbrev began : Made
  began = made_begin asked (stored name)

  module _ (h : Suits y asked name request one three) where
    steps : StepsAgree longest_password y asked name random (length one.lent) (length three.lent) began
    steps =
        exchanged longest_password y h.regular asked name random (length one.lent) (length three.lent)
        (console_small c.begin) h.console h.level h.short h.username (random_sixteen c.opening) h.password h.room₁ h.room₃

    begin_made : begin_of asked name (length request.lent) ≡ accept began
    begin_made = begin_accepts asked name (length request.lent) h.console h.level h.short h.username h.room

    sent₀ : sent request ≡ began.bytes
    sent₀ = made_sent _ began closed request c.begin.kept begin_made

    open_made : open_of c.opening.args.0 c.opening.args.1.0.now random (length one.lent) ≡ accept steps.answered
    open_made =
        ap₂ (λ (s : Record) (m : List ℕ). open_of s m random (length one.lent))
        (c.open_record ∙ made_next _ began closed request c.begin.kept begin_made)
        (c.open_message ∙ ap (response y) sent₀)
        ∙ steps.accepts_response

    sent₁ : sent one ≡ steps.answered.bytes
    sent₁ = made_sent _ steps.answered c.opening.args.0 one c.opening.kept open_made

    two_made : two_of longest_password c.message_2.args.0 c.message_2.args.1.0.now c.message_2.args.1.1.0.now
        c.message_2.args.1.1.1.0.now (length three.lent)
        ≡ accept steps.keyed
    two_made =
        two_same (length three.lent)
        (c.two_record ∙ made_next _ steps.answered c.opening.args.0 one c.opening.kept open_made)
        c.two_kg
        c.two_password
        (c.two_message ∙ ap₂ (second y) sent₀ sent₁)
        ∙ steps.accepts_two

    sent₃ : sent three ≡ steps.keyed.bytes
    sent₃ = made_sent _ steps.keyed c.message_2.args.0 three c.message_2.kept two_made

    next₃ : c.message_2.answer.state ≡ steps.keyed.next
    next₃ = made_next _ steps.keyed c.message_2.args.0 three c.message_2.kept two_made

    -- the system's own message 4
    module _ (z : Ends c.message_2.answer.state (fourth y (sent request) (sent one) (sent three))) where
      four_made : four_of z.message_4.args.0 z.message_4.args.1.0.now ≡ accept (record { next = opened steps.keyed.next; bytes = [] })
      four_made =
          ap₂ four_of (z.four_record ∙ next₃) (z.four_message ∙ fourth-same y sent₀ sent₁ sent₃)
          ∙ steps.accepts_four

      four_next : z.message_4.answer.state ≡ opened steps.keyed.next
      four_next = z.message_4.kept.next ∙ ap (record_after z.message_4.args.0) four_made

      handed : z.sub_state.answer ≡ Ok (session_with z.message_4.answer.state.keys z.message_4.answer.state.agreed)
      unfolding opened
      handed =
          let h = is_in_step (opened steps.keyed.next) 4 refl steps.named in
          session_open _ _ z.sub_state.answer z.session_record z.sub_state.kept (ap (λ (s : Record). in_step s 4) four_next ∙ h)

      pub exchange : Exchange y asked name random request one three z.message_4.answer z.sub_state.answer
      exchange =
          let z₁ = opened-same y sent₀ sent₁ sent₃ four_next steps.opens in
          record {
            begins = made_wrote _ began closed request c.begin.kept begin_made;
            accepts_response = made_wrote _ steps.answered c.opening.args.0 one c.opening.kept open_made;
            accepts_two = made_wrote _ steps.keyed c.message_2.args.0 three c.message_2.kept two_made;
            hears = hears_same y sent₀ sent₁ sent₃ asked name random steps.hears;
            accepts_four = outcome_one z.message_4.answer.answer (Ok tt) (z.message_4.kept.answer ∙ ap done four_made);
            writes_nothing = z.message_4.kept.len ∙ ap (λ (r : Res Made). length (written z.message_4.args.0 r)) four_made;
            opens = z₁;
            establishes = handed ∙ ap₂ (λ k g. Ok (session_with k g)) z₁.keys z₁.agreed;
          }

    -- any other value in its place
    module _ (x : List ℕ) (d : x ≡ value_in y (sent one) → ⊥) (z : Ends c.message_2.answer.state (head_to (sent request) (sent three) ++ x)) where
      four_stopped : four_of z.message_4.args.0 z.message_4.args.1.0.now ≡ refuse 32 0
      four_stopped =
          ap₂ four_of (z.four_record ∙ next₃) (z.four_message ∙ ap₂ (λ (a b : List ℕ). head_to a b ++ x) sent₀ sent₃)
          ∙ steps.refuses_other x (λ e. d (e ∙ ap (value_in y) (sym sent₁)))

      four_closed : z.message_4.answer.state ≡ closed
      four_closed = z.message_4.kept.next ∙ ap (record_after z.message_4.args.0) four_stopped

      pub exchange_refuses : Refuses z.message_4.answer z.sub_state.answer
      exchange_refuses =
          let n = session_none z.sub_state.args.0 z.sub_state.answer (z.session_record ∙ four_closed) z.sub_state.kept in
          record {
            refuses = z.message_4.kept.answer ∙ ap done four_stopped;
            writes_nothing = z.message_4.kept.len ∙ ap (λ (r : Res Made). length (written z.message_4.args.0 r)) four_stopped;
            closes = four_closed;
            refuses_session = n;
          }
