-- What each side reads in the messages of the other.
use Rattle.std.specs.Prelude.{Option, Some, None}
use Prim.Native.Nat.{ℕ, ◌+◌, ◌-◌, ◌%◌, ◌^◌, ◌≤◌, ◌<◌}
use native.Mathlib.Omega.{arith}
use mathlib.Core.Bool.{true}
use mathlib.Core.List.{List, [], ◌∷◌, ◌++◌, append_assoc}
use mathlib.Core.Path.{◌≡◌, refl, sym, ◌∙◌, ap, ap₂}
use lib.Dec.{leb}
use lib.ListN.{length, get_or, take, drop, replicate, length-append}
use lib.Seq.{take_at, drop_at, take-length, get_or_at, get_or-append-add}
use borrow.Author.Tests.{eq-eqb, le-leb}
use Rattle.refusal.specs.Order.{accept}
use Rattle.refusal.proofs.Order.{pass, then_accept}
use Rattle.octets.specs.Number.{le, unle}
use Rattle.octets.specs.Place.{part}
use Rattle.octets.proofs.Number.{unle-le}
use Rattle.octets.proofs.Place.{part-behind}
use Rattle.sha1_hmac.specs.Hash.{hmac_sha1}
use Rattle.keys.specs.Codes.{role_name, code3}
use Rattle.messages.specs.Auth.{last_code, coded, is_level}
use Rattle.messages.specs.Block.{known, block_of, of_type, block_bytes}
use Rattle.messages.specs.Name.{allowed, name_of}
use Rattle.messages.specs.OpenSession.{Response, level_byte, open_request, open_numbers, open_response}
use Rattle.messages.specs.Rakp.{fields2, message2, message1, message3, fields4, message4}
use Rattle.messages.specs.declared.rakp_1.RakpMessage1.{RakpMessage1}
use Rattle.messages.specs.declared.rakp_2.RakpMessage2.{RakpMessage2}
use Rattle.messages.specs.declared.rakp_3.RakpMessage3.{RakpMessage3}
use Rattle.messages.specs.declared.rakp_4.RakpMessage4.{RakpMessage4}
use Rattle.messages.proofs.Opening.{fields_all, open_passed}
use Rattle.messages.proofs.Tests.{checked_passed}
use Rattle.session.specs.Constants.{open_tag, code_size}
use Rattle.session.specs.Steps.{level_allowed, request_of}
use Rattle.session.specs.System.{System, level_in, sidm_in, rm_in, role_in, name_size_in, name_in, who_in, TakesRequest, TakesOne, TakesThree}
use Rattle.session.specs.declared.Asked.{Asked}
use Rattle.session.proofs.Role.{level_most}

-- an id comes back from its four bytes
id_back : (n : ℕ) → n < 2 ^ 32 → unle (le 4 n) ≡ n
id_back n h = unle-le 4 n h

-- a block that is written in the place of its type
of_type-block_bytes : (t c : ℕ) → leb t 2 ≡ true → leb c (last_code t) ≡ true → of_type t (block_of (block_bytes t c)) ≡ accept c
unfolding of_type block_of known coded
of_type-block_bytes t c h k =
    then_accept _ _ (record { type = t; code = c }) (pass _ _ _ _ refl (pass _ _ _ _ h (then_accept _ _ c (pass _ _ _ _ k refl))))
    ∙ pass _ _ _ _ (eq-eqb t t refl) refl

-- a response
abbrev pub response_bytes : ℕ → ℕ → ℕ → ℕ → ℕ → ℕ → List ℕ
response_bytes tag level own id i c =
    (tag ∷ 0 ∷ level ∷ 0 ∷ le 4 own) ++ le 4 id ++ block_bytes 0 1 ++ block_bytes 1 i ++ block_bytes 2 c

abbrev pub response_says : ℕ → ℕ → ℕ → ℕ → ℕ → ℕ → Response
response_says tag level own id i c =
    record { tag = tag; level = level; console = own; system = id; authentication = 1; integrity = i; confidentiality = c }

module _ (tag level own id i c : ℕ) (a : own < 2 ^ 32) (b : own ≡ 0 → ⊥) (p : id < 2 ^ 32) (q : id ≡ 0 → ⊥)
    (l : is_level level ≡ true) (g : i ≤ 1) (h : c ≤ 1) where
  pub response_heard : open_response (response_bytes tag level own id i c) ≡ accept (response_says tag level own id i c)
  unfolding open_response open_numbers
  response_heard =
      let m : List ℕ = response_bytes tag level own id i c in
      let x = id_back own a in
      let y = id_back id p in
      let n : Response = response_says tag level (unle (le 4 own)) (unle (le 4 id)) i c in
      then_accept _ _ tt (sym (open_passed m (omega arith) refl refl (is_level level) refl l (λ z. b (sym x ∙ z)) (λ z. q (sym y ∙ z))))
      ∙ sym
      (fields_all m 1 (of_type-block_bytes 0 1 refl refl) i (of_type-block_bytes 1 i refl (le-leb i 4 (omega arith))) c n
      (of_type-block_bytes 2 c refl (le-leb c 3 (omega arith))) refl)
      ∙ ap₂ (λ (u v : ℕ). accept (response_says tag level u v i c)) x y

-- message 2
abbrev pub two_bytes : ℕ → ℕ → List ℕ → List ℕ → List ℕ → List ℕ
two_bytes tag own rc guid code = (tag ∷ 0 ∷ 0 ∷ 0 ∷ le 4 own) ++ rc ++ guid ++ code

abbrev pub two_says : ℕ → ℕ → List ℕ → List ℕ → RakpMessage2
two_says tag own rc guid = record { tag = tag; console = own; random = rc; guid = guid; code = record { at = 40; len = code_size } }

module _ (tag own : ℕ) (rc guid code : List ℕ) (a : own < 2 ^ 32) (b : own ≡ 0 → ⊥) (d : length rc ≡ 16) (e : length guid ≡ 16)
    (f : length code ≡ code_size) where
  abbrev two : List ℕ
  two = two_bytes tag own rc guid code

  two_length : length two ≡ 40 + code_size
  two_length = simp length-append (omega arith)

  two_random : part two 8 16 ≡ rc
  two_random = ap (take 16) (append_assoc rc guid code) ∙ take_at rc (guid ++ code) 16 d

  two_guid : part two 24 16 ≡ guid
  two_guid =
      ap (λ (l : List ℕ). part l 16 16) (append_assoc rc guid code)
      ∙ ap (take 16) (drop_at rc (guid ++ code) 16 d)
      ∙ take_at guid code 16 e

  pub two_code : drop 40 two ≡ code
  two_code = let n : length (rc ++ guid) ≡ 32 = simp length-append (omega arith) in drop_at (rc ++ guid) code 32 n

  two_fields : fields2 two ≡ two_says tag own rc guid
  unfolding fields2
  two_fields =
      let n = two_length in
      let w : length two - 40 ≡ code_size = omega arith in
      rw (id_back own a, two_random, two_guid, w)

  pub two_heard : message2 two ≡ accept (two_says tag own rc guid)
  unfolding message2
  two_heard =
      let n = two_length in
      let x = id_back own a in
      then_accept _ _ tt (sym (checked_passed _ 40 20 0 two (omega arith) refl (omega arith) (λ z. b (sym x ∙ z)))) ∙ ap accept two_fields

-- message 4
abbrev pub four_bytes : ℕ → ℕ → List ℕ → List ℕ
four_bytes tag own value = (tag ∷ 0 ∷ 0 ∷ 0 ∷ le 4 own) ++ value

abbrev pub four_says : ℕ → ℕ → List ℕ → RakpMessage4
four_says tag own value = record { tag = tag; id = own; value = record { at = 8; len = length (four_bytes tag own value) - 8 } }

pub four_heard : (tag own : ℕ) (value : List ℕ) → own < 2 ^ 32 → (own ≡ 0 → ⊥)
    → message4 (four_bytes tag own value) ≡ accept (four_says tag own value)
unfolding message4 fields4
four_heard tag own value a b =
    let x = id_back own a in
    let m : List ℕ = four_bytes tag own value in
    then_accept _ _ tt (sym (checked_passed _ 8 21 0 m (omega arith) refl (omega arith) (λ z. b (sym x ∙ z))))
    ∙ rw x

-- what the system reads: the request, which it takes
pub request_tag : (asked : Asked) → get_or (request_of asked) 0 0 ≡ open_tag
unfolding request_of open_request
request_tag asked = refl

pub request_sidm : (asked : Asked) → asked.console < 2 ^ 32 → sidm_in (request_of asked) ≡ asked.console
unfolding sidm_in request_of open_request
request_sidm asked h = id_back asked.console h

pub request_level : (asked : Asked) → level_in (request_of asked) ≡ level_byte asked.level
unfolding request_of open_request
request_level asked = refl

level_short : (l : Option ℕ) → level_allowed l ≡ true → level_byte l ≤ 5
level_short None h = omega arith
level_short (Some b) h = level_most b h

pub request_taken : (asked : Asked) → asked.console < 2 ^ 32 → (asked.console ≡ 0 → ⊥) → level_allowed asked.level ≡ true
    → TakesRequest (request_of asked)
unfolding request_of open_request
request_taken asked a b l =
    record {
      size = refl;
      level = level_short asked.level l;
      reserved = refl;
      console = (λ z. b (sym (request_sidm asked a) ∙ z));
      authentication = refl;
      integrity = refl;
      confidentiality = refl;
    }

-- message 1
module _ (s : RakpMessage1) (e : length s.random ≡ 16) where
  -- what stands between RM and the name
  abbrev between : List ℕ
  between = s.role ∷ 0 ∷ 0 ∷ length (name_of s.username) ∷ []

  from_rm : s.random ++ between ++ name_of s.username ≡ s.random ++ (between ++ name_of s.username)
  from_rm = append_assoc s.random between (name_of s.username)

  pub one_tag : get_or (message1 s) 0 0 ≡ s.tag
  unfolding message1
  one_tag = refl

  one_reserved : part (message1 s) 1 3 ≡ replicate 3 0
  unfolding message1
  one_reserved = refl

  one_system : s.system < 2 ^ 32 → unle (part (message1 s) 4 4) ≡ s.system
  unfolding message1
  one_system h = id_back s.system h

  pub one_rm : rm_in (message1 s) ≡ s.random
  unfolding rm_in message1
  one_rm = ap (take 16) from_rm ∙ take_at s.random _ 16 e

  pub one_role : role_in (message1 s) ≡ s.role
  unfolding message1
  one_role = ap (λ (l : List ℕ). get_or l 16 0) from_rm ∙ get_or_at s.random s.role _ 0 16 e

  one_unread : part (message1 s) 25 2 ≡ replicate 2 0
  unfolding message1
  one_unread = ap (λ (l : List ℕ). part l 17 2) from_rm ∙ part-behind s.random (between ++ name_of s.username) 16 1 2 e

  pub one_count : name_size_in (message1 s) ≡ length (name_of s.username)
  unfolding message1
  one_count =
      let n : length s.random + 3 ≡ 19 = omega arith in
      ap (λ (l : List ℕ). get_or l 19 0) from_rm
      ∙ ap (λ (k : ℕ). get_or (s.random ++ (between ++ name_of s.username)) k 0) (sym n)
      ∙ get_or-append-add s.random (between ++ name_of s.username) 3 0

  pub one_rest : drop 28 (message1 s) ≡ name_of s.username
  unfolding message1
  one_rest =
      let n : length (s.random ++ between) ≡ 20 = simp length-append (omega arith) in
      drop_at (s.random ++ between) (name_of s.username) 20 n

  one_name : name_in (message1 s) ≡ name_of s.username
  one_name = rw (one_count, one_rest, take-length (name_of s.username))

  pub message1-length : length (message1 s) ≡ 28 + length (name_of s.username)
  unfolding message1
  message1-length = simp length-append (omega arith)

  pub one_who : who_in (message1 s) ≡ role_name s.role (name_of s.username)
  unfolding who_in
  one_who = ap₂ role_name one_role one_name

  -- which it takes, where it has the id s .system
  pub one_taken : (y : System) → y.id ≡ s.system → s.system < 2 ^ 32 → is_level (s.role % 16) ≡ true → s.role < 32
      → length (name_of s.username) ≤ 16 → allowed (name_of s.username) ≡ true → TakesOne y (message1 s)
  one_taken y i h l b n w =
      record {
        size = message1-length ∙ ap (λ (k : ℕ). 28 + k) (sym one_count);
        reserved = one_reserved;
        system = one_system h ∙ sym i;
        role = rw one_role l;
        lookup = rw one_role b;
        unread = one_unread;
        short = rw one_count n;
        name = rw one_name w;
      }

-- message 3
module _ (s : RakpMessage3) (code : List ℕ) where
  pub three_tag : get_or (message3 s code) 0 0 ≡ s.tag
  unfolding message3
  three_tag = refl

  pub three_taken : (y : System) (request one : List ℕ) → s.system ≡ y.id → s.system < 2 ^ 32 → length code ≡ code_size
      → code ≡ code3 hmac_sha1 y.password y.random (sidm_in request) (who_in one) → TakesThree y request one (message3 s code)
  unfolding message3
  three_taken y request one i h n e =
      record { size = omega (arith, n); status = refl; reserved = refl; system = id_back s.system h ∙ i; code = e }
