-- What the steps make: the codes they compute, the messages they write, the records they leave.
use Prim.Native.Nat.{ℕ, ◌≤◌}
use native.Mathlib.Omega.{arith}
use Rattle.std.specs.Prelude.{Result, Ok, Err, is_ok}
use mathlib.Core.Bool.{Bool, true, false}
use mathlib.Core.List.{List, []}
use mathlib.Core.Path.{◌≡◌, refl, sym, ◌∙◌, ap}
use lib.Dec.{leb}
use lib.ListN.{length, length-append}
use lib.Seq.{length-take-le}
use borrow.Author.Tests.{le-leb}
use Rattle.refusal.specs.Order.{refuse, accept}
use Rattle.refusal.specs.Answer.{told_as}
use Rattle.refusal.specs.declared.Refusal.TheVariants.{Declined}
use Rattle.refusal.proofs.Order.{refuse≢accept, accept_inj}
use Rattle.messages.specs.Answers.{told_written}
use Rattle.messages.specs.declared.open_session.OpenSessionRequest.{OpenSessionRequest}
use Rattle.messages.specs.declared.open_session.OpenSessionResponse.{OpenSessionResponse}
use Rattle.messages.specs.declared.rakp_1.RakpMessage1.{RakpMessage1}
use Rattle.messages.specs.declared.rakp_3.RakpMessage3.{RakpMessage3}
use Rattle.octets.specs.Place.{begun}
use Rattle.running.specs.Promise.{limit}
use Rattle.sha1_hmac.specs.Answers.{HashedPromise}
use Rattle.sha1_hmac.specs.View.{hashed_of}
use Rattle.sha1_hmac.specs.declared.Hashed.{Hashed}
use Rattle.running.proofs.Promised.{yes}
use Rattle.sha1_hmac.proofs.Laws.{mac_length}
use Rattle.keys.specs.Chosen.{absent, key_of}
use Rattle.messages.specs.Name.{name_of}
use Rattle.messages.specs.OpenSession.{open_request, response_numbers}
use Rattle.messages.specs.Promises.{WritePromise}
use Rattle.messages.specs.Rakp.{message1, message3, declined3, message4, fields2, fields4}
use Rattle.refusal.specs.declared.Refusal.{Refusal}
use Rattle.messages.specs.declared.rakp_1.Username.{Username}
use Rattle.messages.specs.declared.rakp_2.RakpMessage2.{RakpMessage2}
use Rattle.messages.specs.declared.rakp_4.RakpMessage4.{RakpMessage4}
use Rattle.messages.proofs.Writing.{wrote, size1}
use Rattle.messages.proofs.Answered.{found_2, found_4}
use Rattle.session.specs.Constants.{code_size, request_size, one_size, three_size}
use Rattle.session.specs.Record.{closed, begun_of, begun_with, answered, keyed}
use Rattle.session.specs.Steps.{Made, heard_two, request_of, made_begin, one_to, made_open, three_of, made_two, sik_two, code_three}
use Rattle.session.specs.Promise.{StepPromise}
use Rattle.session.specs.declared.Asked.{Asked}
use Rattle.session.specs.declared.Begun.{Begun}
use Rattle.session.specs.declared.Record.{Record}
use Rattle.session.proofs.Stages.{step_made}
use Rattle.session.proofs.Chains.{two_found}

-- a call that was accepted did not refuse
told_ok : {A B : Type 0} (f : A → B) (r : Result A Refusal) (b : B) → told_as f r ≡ accept b → is_ok r ≡ true
told_ok f (Ok a) b e = refl
told_ok f (Err q) b e = absurd (refuse≢accept _ _ b e)

-- a code under a key that is short enough
module _ (k d : List ℕ) (n : ℕ) (r : Result Hashed Refusal) (h : length k ≤ limit) (p : HashedPromise (leb (length k) limit) d n r) where
  hashed : told_as hashed_of r ≡ accept (d, n)
  hashed = yes p (le-leb (length k) limit h)

  pub is_hashed : is_ok r ≡ true
  is_hashed = told_ok hashed_of r (d, n) hashed

  pub hashed_digest : (x : Hashed) → r ≡ Ok x → x.digest ≡ d
  hashed_digest x e = ap (λ (t : List ℕ × ℕ). t.0) (accept_inj _ _ (sym (ap (told_as hashed_of) e) ∙ hashed))

-- the key that was chosen is as short as both are
pub key_short : (kg password : List ℕ) → length kg ≤ limit → length password ≤ limit → length (key_of kg password) ≤ limit
key_short kg password h g = by (absent kg) refl
  where
    by : (t : Bool) → absent kg ≡ t → length (key_of kg password) ≤ limit
    by true e = rw e g
    by false e = rw e h

-- what a writer left and told where there was room: every byte, and how many they are
module _ (bytes out : List ℕ) (r : Result ℕ Refusal) (x : List ℕ) (p : WritePromise bytes out r x) (h : length bytes ≤ length out) where
  pub is_written : is_ok r ≡ true
  is_written = told_ok (λ n. n) r (length bytes) (wrote bytes out r x p h).0

  pub step_written : (n : ℕ) (M : Made) (s st : Record) → r ≡ Ok n → bytes ≡ M.bytes → st ≡ M.next
      → StepPromise (accept M) s out (record { state = st; answer = Ok tt; len = n }) x
  step_written n M s st e b f =
      let w = wrote bytes out r x p h in
      let l : n ≡ length bytes = accept_inj _ _ (sym (ap told_written e) ∙ w.0) in
      step_made M s out st n x f (l ∙ ap length b) (w.1 ∙ ap (λ (l : List ℕ). begun l out) b)

  -- or the message that declines
  pub declined : (n : ℕ) (s y : Record) → r ≡ Ok n → bytes ≡ declined3 (three_of s) → y ≡ closed
      → StepPromise (refuse 31 0) s out (record { state = y; answer = Err Declined; len = n }) x
  declined n s y e b f =
      let w = wrote bytes out r x p h in
      let l : n ≡ length bytes = accept_inj _ _ (sym (ap told_written e) ∙ w.0) in
      record { answer = refl; next = f; len = l ∙ ap length b; buffer = w.1 ∙ ap (λ (l : List ℕ). begun l out) b }

-- how long the messages are
pub request_fits : (r : OpenSessionRequest) (out : List ℕ) → request_size ≤ length out → length (open_request r) ≤ length out
unfolding open_request
request_fits r out h = h

name_size : (u : Username) → length u.bytes ≡ 16 → u.len ≤ 16 → u.len ≡ length (name_of u)
unfolding name_of
name_size u e h = sym (length-take-le u.len u.bytes (omega arith))

pub one_length : (m : RakpMessage1) → length m.random ≡ 16 → length m.username.bytes ≡ 16 → m.username.len ≤ 16
    → length (message1 m) ≡ one_size m.username.len
one_length m k b l = size1 m k m.username.len (name_size m.username b l) []

pub three_length : (m : RakpMessage3) (code : List ℕ) → length code ≡ code_size → length (message3 m code) ≡ three_size
unfolding message3
three_length m code n = simp length-append (omega arith)

pub declined_length : (m : RakpMessage3) → length (declined3 m) ≡ 8
unfolding declined3
declined_length m = refl

-- Begin: the request, and the record
pub begin_made : (asked : Asked) (u : Username) (out : List ℕ) (b : Begun) (st : Record) (w : Result ℕ Refusal) (x : List ℕ) → b ≡ begun_of asked u
    → st ≡ begun_with b → WritePromise (request_of asked) out w x → request_size ≤ length out
    → StepPromise (accept (made_begin asked u)) closed out (record { state = st; answer = Ok tt; len = request_size }) x
unfolding made_begin request_of open_request
begin_made asked u out b st w x e f p h =
    step_made (made_begin asked u) closed out st request_size x (f ∙ ap begun_with e) refl (wrote _ out w x p h).1

-- the open response: message 1, and the record
pub open_made : (s : Record) (r : OpenSessionResponse) (rm out : List ℕ) (st : Record) (n : ℕ) (w : Result ℕ Refusal) (x : List ℕ)
    → n ≡ s.begun.username.len → st ≡ answered s (response_numbers r) rm
    → WritePromise (message1 (one_to r.system s rm)) out w x
    → length rm ≡ 16 → length s.begun.username.bytes ≡ 16 → s.begun.username.len ≤ 16 → one_size s.begun.username.len ≤ length out
    → StepPromise (accept (made_open s rm (response_numbers r))) s out (record { state = st; answer = Ok tt; len = one_size n }) x
unfolding made_open response_numbers
open_made s r rm out st n w x q e p k b l h =
    let z = one_length (one_to r.system s rm) k b l in
    step_made (made_open s rm (response_numbers r)) s out st (one_size n) x e (ap one_size q ∙ sym z) (wrote _ out w x p (omega arith)).1

-- message 2: message 3, and the record
pub two_made : (s : Record) (kg password : List ℕ) (f : RakpMessage2) (code sik out : List ℕ) (st : Record) (w : Result ℕ Refusal) (x : List ℕ)
    → code ≡ code_three s password f → sik ≡ sik_two s kg password f → st ≡ keyed s f.guid sik
    → WritePromise (message3 (three_of s) code) out w x → three_size ≤ length out
    → StepPromise (accept (made_two s kg password f)) s out (record { state = st; answer = Ok tt; len = three_size }) x
unfolding made_two code_three
two_made s kg password f code sik out st w x a b e p h =
    let n : length code ≡ code_size = ap length a ∙ mac_length password _ in
    let z = three_length (three_of s) code n in
    step_made (made_two s kg password f) s out st three_size x (e ∙ ap (keyed s f.guid) b)
    (sym z ∙ ap (λ (c : List ℕ). length (message3 (three_of s) c)) a)
    ((wrote _ out w x p (omega arith)).1 ∙ ap (λ (c : List ℕ). begun (message3 (three_of s) c) out) a)

-- the code's place lies in the message
pub code_inside : (s : Record) (m : List ℕ) (f : RakpMessage2) → heard_two s m ≡ accept f → f.code.at ≤ length m
unfolding fields2
code_inside s m f e =
    let g = found_2 m f (two_found s m f e) in
    let z : f.code.at ≡ 40 = ap (λ (x : RakpMessage2). x.code.at) g.0 in
    omega (arith, g.1)

-- and so does the value's in message 4
pub value_inside : (m : List ℕ) (f : RakpMessage4) → message4 m ≡ accept f → f.value.at ≤ length m
unfolding fields4
value_inside m f e =
    let g = found_4 m f e in
    let z : f.value.at ≡ 8 = ap (λ (x : RakpMessage4). x.value.at) g.0 in
    omega (arith, g.1)
