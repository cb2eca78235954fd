-- A whole exchange (the Standard, 13.17 to 13.24; docs/RULES.md, section 7), said of a console's calls as they are seen from outside:
-- `begin`, `open_response`, `message_2`, `message_4` and `sub_state`. proofs/Calls proves it of every row of calls that keep their
-- promises, where each call is given the record that the one before it answered, and what the system sends upon the bytes that the
-- calls before it wrote into their outputs.
use Rattle.std.specs.Prelude.{Result, Ok, ℕ, ◌≤◌, true, List, ◌≡◌, length, take}
use Rattle.refusal.specs.Order.{refuse}
use Rattle.refusal.specs.Answer.{told}
use Rattle.refusal.specs.declared.Refusal.{Refusal}
use Rattle.octets.specs.Place.{begun}
use Rattle.messages.specs.Name.{allowed, longest_name}
use Rattle.messages.specs.OpenSession.{level_byte}
use Rattle.session.specs.Constants.{longest_password, request_size, one_size, three_size}
use Rattle.session.specs.Role.{who_asked}
use Rattle.session.specs.Record.{closed}
use Rattle.session.specs.Steps.{level_allowed}
use Rattle.session.specs.Promise.{session_with}
use Rattle.session.specs.System.{System, Regular, level_in, sidm_in, rm_in, who_in, keys_in, agreed_in, TakesRequest, TakesOne, TakesThree}
use Rattle.session.specs.declared.Asked.{Asked}
use Rattle.session.specs.declared.Record.{Record}
use Rattle.session.specs.declared.Stepped.{Stepped}
use Rattle.suite.specs.declared.SubState.{SubState}
use Rattle.session.specs.declared.Step.TheVariants.{Open}

-- a call that writes: its output as it was lent, its answer, its output as it was left
pub record Seen : Type 0 where
  pub lent : List ℕ
  pub answer : Stepped
  pub left : List ℕ

-- what it wrote: as many bytes as it tells, from the start of its output
abbrev pub sent : Seen → List ℕ
sent c = take c.answer.len c.left

-- what the theorem asks for, of the calls that write the request, message 1 and message 3: a system of the Standard whose password is
-- within the limit in force; an id, a level and a name that Begin takes (7.1, 7.14); outputs as long as the messages
pub record Suits (y : System) (asked : Asked) (name : List ℕ) (request one three : Seen) : Type 0 where
  pub regular : Regular y
  pub password : length y.password ≤ longest_password
  pub console : asked.console ≡ 0 → ⊥
  pub level : level_allowed asked.level ≡ true
  pub short : length name ≤ longest_name
  pub username : allowed name ≡ true
  pub room : request_size ≤ length request.lent
  pub room₁ : one_size (length name) ≤ length one.lent
  pub room₃ : three_size ≤ length three.lent

-- a call that was done: it wrote all the bytes that it tells, and those past them are as they were lent
pub record Wrote (c : Seen) : Type 0 where
  pub done : c.answer.answer ≡ Ok tt
  pub len : length (sent c) ≡ c.answer.len
  pub rest : c.left ≡ begun (sent c) c.lent

-- what the system makes of the three messages: it takes each, and hears the level, the id, RM, the role and the name
pub record Hears (y : System) (asked : Asked) (name rm request one three : List ℕ) : Type 0 where
  pub takes_request : TakesRequest request
  pub level : level_in request ≡ level_byte asked.level
  pub console : sidm_in request ≡ asked.console
  pub takes_one : TakesOne y one
  pub random : rm_in one ≡ rm
  pub who : who_in one ≡ who_asked asked name
  pub takes_three : TakesThree y request one three

-- a record that is open with the system's id, algorithms and keys, so K1 and the AES key
pub record Opened (y : System) (one : List ℕ) (s : Record) : Type 0 where
  pub step : s.step ≡ Open
  pub system : s.system ≡ y.id
  pub agreed : s.agreed ≡ agreed_in y
  pub keys : s.keys ≡ keys_in y one

-- every call is done, the system takes what was written, the record opens, and that is the session that is handed out
pub record Exchange (y : System) (asked : Asked) (name rm : List ℕ) (request one three : Seen) (four : Stepped) (e : Result SubState Refusal) : Type 0 where
  pub begins : Wrote request
  pub accepts_response : Wrote one
  pub accepts_two : Wrote three
  pub hears : Hears y asked name rm (sent request) (sent one) (sent three)
  pub accepts_four : four.answer ≡ Ok tt
  pub writes_nothing : four.len ≡ 0
  pub opens : Opened y (sent one) four.state
  pub establishes : e ≡ Ok (session_with (keys_in y (sent one)) (agreed_in y))

-- with any other value in message 4's place: 32, the record closes, and no session is handed out but 33
pub record Refuses (four : Stepped) (e : Result SubState Refusal) : Type 0 where
  pub refuses : told four.answer ≡ refuse 32 0
  pub writes_nothing : four.len ≡ 0
  pub closes : four.state ≡ closed
  pub refuses_session : told e ≡ refuse 33 0
