-- A whole exchange over the definitions of the steps: a console that has begun, and a system that follows the definitions with the
-- same password and the same Kg, take each other's messages and end with the same keys. proofs/Calls carries it to the calls.
use Prim.Native.Nat.{ℕ, ◌^◌, ◌≤◌, ◌<◌}
use mathlib.Core.Bool.{true}
use mathlib.Core.List.{List, [], ◌++◌}
use mathlib.Core.Path.{◌≡◌, refl, sym, ◌∙◌, ap, ap₂}
use lib.ListN.{length, get_or, drop}
use Rattle.refusal.specs.Order.{refuse, accept}
use Rattle.sha1_hmac.specs.Hash.{hmac_sha1}
use Rattle.sha1_hmac.proofs.Laws.{mac_length}
use Rattle.keys.specs.Codes.{role_name, code2, code3}
use Rattle.keys.specs.Keys.{keys_of}
use Rattle.messages.specs.Name.{allowed, stored}
use Rattle.messages.specs.OpenSession.{Response, open_response}
use Rattle.messages.specs.Rakp.{message1, message2, message4}
use Rattle.messages.specs.declared.rakp_1.RakpMessage1.{RakpMessage1}
use Rattle.messages.specs.declared.rakp_2.RakpMessage2.{RakpMessage2}
use Rattle.messages.proofs.Names.{stored_whole}
use Rattle.session.specs.Constants.{open_tag, tag1, tag3, code_size, one_size, three_size}
use Rattle.session.specs.Role.{role_asked}
use Rattle.session.specs.Record.{step_number, begun_of, begun_with, agreed_of, answered, keyed, opened}
use Rattle.session.specs.Steps.{Made, level_allowed, request_of, made_begin, one_to, made_open, open_of, who, code_two}
use Rattle.session.specs.Steps.{sik_two, code_three, made_two, two_of, value_four, four_of}
use Rattle.session.specs.System.{System, Regular, sidm_in, rm_in, who_in, head_to, response, code_in}
use Rattle.session.specs.System.{second, sik_in, keys_in, agreed_in, value_in, fourth, TakesOne, TakesThree}
use Rattle.session.specs.Exchange.{Hears, Opened}
use Rattle.session.specs.declared.Asked.{Asked}
use Rattle.session.specs.declared.Record.{Record}
use Rattle.session.proofs.Role.{role_legal, role_short}
use Rattle.session.proofs.Accepting.{is_in_step, are_carried, open_accepts, two_accepts, four_accepts, four_refuses}
use Rattle.session.proofs.Heard.{response_bytes, response_says, response_heard, two_bytes, two_says, two_code, two_heard, four_bytes, four_says, four_heard}
use Rattle.session.proofs.Heard.{request_tag, request_sidm, request_level, request_taken, one_tag, one_rm, one_who, one_taken, three_tag, three_taken}

-- messages 2 to 4, from a console that has taken the response: its record s, and what the system has heard by then
module _ (y : System) (r : Regular y) (s : Record) (request one : List ℕ) (a : s.begun.console < 2 ^ 32) (b : s.begun.console ≡ 0 → ⊥)
    (w : s.begun.username.len ≤ 16) (i : sidm_in request ≡ s.begun.console) (j : s.system ≡ y.id) (g : get_or one 0 0 ≡ tag1)
    (u : rm_in one ≡ s.rm) (v : who_in one ≡ who s) where
  -- what the console reads in message 2
  abbrev said : RakpMessage2
  said = two_says tag1 s.begun.console y.random y.guid

  code_in-length : length (code_in y request one) ≡ code_size
  unfolding code_in
  code_in-length = mac_length _ _

  code_agrees : code_in y request one ≡ code_two s y.password said
  unfolding code_in code_two
  code_agrees =
      rw (i, u, v)
      (ap (λ (x : ℕ). code2 hmac_sha1 y.password s.begun.console x s.rm y.random y.guid (who s)) (sym j))

  second_is : second y request one ≡ two_bytes tag1 s.begun.console y.random y.guid (code_in y request one)
  unfolding second
  second_is = ap₂ (λ (t x : ℕ). two_bytes t x y.random y.guid (code_in y request one)) g i

  two_taken : (most room : ℕ) → step_number s.step ≡ 2 → length y.password ≤ most → three_size ≤ room
      → two_of most s y.kg y.password (second y request one) room ≡ accept (made_two s y.kg y.password said)
  two_taken most room e p h =
      two_accepts most s y.kg y.password (second y request one) room said (is_in_step s 2 e w) r.kg p h
      (ap message2 second_is ∙ two_heard tag1 s.begun.console y.random y.guid _ a b r.random r.guid code_in-length)
      refl refl refl
      (ap (drop 40) second_is ∙ two_code tag1 s.begun.console y.random y.guid _ a b r.random r.guid code_in-length ∙ code_agrees)

  sik_agrees : sik_two s y.kg y.password said ≡ sik_in y one
  unfolding sik_two sik_in
  sik_agrees = rw (u, v)

  three_agrees : code_three s y.password said ≡ code3 hmac_sha1 y.password y.random (sidm_in request) (who_in one)
  unfolding code_three
  three_agrees = rw (i, v)

  takes_three : TakesThree y request one (made_two s y.kg y.password said).bytes
  unfolding made_two code_three
  takes_three = three_taken _ _ y request one j (rw j r.small) (mac_length _ _) three_agrees

  -- the console's record at message 4
  abbrev checking : Record
  checking = keyed s y.guid (sik_two s y.kg y.password said)

  value_agrees : value_four checking ≡ value_in y one
  unfolding value_four keyed keys_of value_in
  value_agrees = rw (sik_agrees, u, j)

  module _ (three : List ℕ) (t : get_or three 0 0 ≡ tag3) (x : List ℕ) where
    fourth_is : head_to request three ++ x ≡ four_bytes tag3 s.begun.console x
    fourth_is = ap₂ (λ (c d : ℕ). four_bytes c d x) t i

    four_read : message4 (head_to request three ++ x) ≡ accept (four_says tag3 s.begun.console x)
    four_read = ap message4 fourth_is ∙ four_heard tag3 s.begun.console x a b

    four_taken : x ≡ value_in y one → four_of checking (head_to request three ++ x) ≡ accept (record { next = opened checking; bytes = [] })
    unfolding keyed
    four_taken e =
        four_accepts checking _ (four_says tag3 s.begun.console x) (is_in_step checking 3 refl w) four_read refl refl (e ∙ sym value_agrees)

    four_refused : (x ≡ value_in y one → ⊥) → four_of checking (head_to request three ++ x) ≡ refuse 32 0
    unfolding keyed
    four_refused d =
        four_refuses checking _ (four_says tag3 s.begun.console x) (is_in_step checking 3 refl w) four_read refl refl
        (λ e. d (e ∙ value_agrees))

-- what the steps make of one another's messages, from what Begin made
pub record StepsAgree (most : ℕ) (y : System) (asked : Asked) (n rm : List ℕ) (room₁ room₃ : ℕ) (began : Made) : Type 0 where
  pub answered : Made
  pub keyed : Made
  pub hears : Hears y asked n rm began.bytes answered.bytes keyed.bytes
  pub accepts_response : open_of began.next (response y began.bytes) rm room₁ ≡ accept answered
  pub accepts_two : two_of most answered.next y.kg y.password (second y began.bytes answered.bytes) room₃ ≡ accept keyed
  pub accepts_four : four_of keyed.next (fourth y began.bytes answered.bytes keyed.bytes)
      ≡ accept (record { next = opened keyed.next; bytes = [] })
  pub refuses_other : (x : List ℕ) → (x ≡ value_in y answered.bytes → ⊥)
      → four_of keyed.next (head_to began.bytes keyed.bytes ++ x) ≡ refuse 32 0
  pub named : keyed.next.begun.username.len ≤ 16
  pub opens : Opened y answered.bytes (opened keyed.next)

-- the whole: n is the name
module _ (most : ℕ) (y : System) (r : Regular y) (asked : Asked) (n rm : List ℕ) (room₁ room₃ : ℕ)
    (a : asked.console < 2 ^ 32) (b : asked.console ≡ 0 → ⊥) (d : level_allowed asked.level ≡ true) (l : length n ≤ 16)
    (c : allowed n ≡ true) (k : length rm ≡ 16) (p : length y.password ≤ most) (h₁ : one_size (length n) ≤ room₁) (h₃ : three_size ≤ room₃) where
  abbrev request : List ℕ
  request = request_of asked

  abbrev says : Response
  says = response_says open_tag y.level asked.console y.id y.integrity y.confidentiality

  abbrev waiting : Record
  waiting = answered (begun_with (begun_of asked (stored n))) says rm

  abbrev first : RakpMessage1
  first = one_to y.id (begun_with (begun_of asked (stored n))) rm

  response_is : response y request ≡ response_bytes open_tag y.level asked.console y.id y.integrity y.confidentiality
  unfolding response
  response_is =
      ap₂ (λ (t x : ℕ). response_bytes t y.level x y.id y.integrity y.confidentiality) (request_tag asked) (request_sidm asked a)

  open_taken : open_of (begun_with (begun_of asked (stored n))) (response y request) rm room₁
      ≡ accept (made_open (begun_with (begun_of asked (stored n))) rm says)
  unfolding begun_with begun_of stored
  open_taken =
      open_accepts (begun_with (begun_of asked (stored n))) (response y request) rm room₁ says (is_in_step (begun_with (begun_of asked (stored n))) 1 refl l) h₁
      (ap open_response response_is
      ∙ response_heard open_tag y.level asked.console y.id y.integrity y.confidentiality
      a b r.small r.id r.level r.integrity r.confidentiality)
      refl refl (are_carried says refl r.integrity r.confidentiality)

  who_agrees : who_in (message1 first) ≡ who waiting
  unfolding who answered begun_with begun_of
  who_agrees = one_who first k

  abbrev proving : Made
  proving = made_two waiting y.kg y.password (two_says tag1 asked.console y.random y.guid)

  takes_one : TakesOne y (message1 first)
  unfolding begun_with begun_of
  takes_one =
      one_taken first k y refl r.small (role_legal asked.level d asked.lookup) (role_short asked.level d asked.lookup)
      (rw (stored_whole n) l) (rw (stored_whole n) c)

  pub exchanged : StepsAgree most y asked n rm room₁ room₃ (made_begin asked (stored n))
  unfolding made_begin made_open made_two answered begun_with begun_of agreed_of agreed_in keyed opened keys_in fourth stored
  exchanged =
      let i = request_sidm asked a in
      let g = one_tag first k in
      let u = one_rm first k in
      let v = who_agrees in
      let one : List ℕ = message1 first in
      let e = sik_agrees y r waiting request one a b l i refl g u v in
      record {
        answered = made_open (begun_with (begun_of asked (stored n))) rm says;
        keyed = proving;
        hears = record {
          takes_request = request_taken asked a b d;
          level = request_level asked;
          console = i;
          takes_one = takes_one;
          random = u;
          who = one_who first k ∙ ap (role_name (role_asked asked)) (stored_whole n);
          takes_three = takes_three y r waiting request one a b l i refl g u v;
        };
        accepts_response = open_taken;
        accepts_two = two_taken y r waiting request one a b l i refl g u v most room₃ refl p h₃;
        accepts_four = four_taken y r waiting request one a b l i refl g u v proving.bytes (three_tag _ _) (value_in y one) refl;
        refuses_other = (λ x. four_refused y r waiting request one a b l i refl g u v proving.bytes (three_tag _ _) x);
        named = l;
        opens = record { step = refl; system = refl; agreed = refl; keys = ap keys_of e };
      }
