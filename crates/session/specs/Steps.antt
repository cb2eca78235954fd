-- The four steps of a console (docs/RULES.md, 7.1 to 7.5 and 7.15; the Standard, 13.17 to 13.24 and 13.28 to 13.32): for each the order of its
-- refusals, the record that it leaves and the message that it writes. `ready..` is what is tested before the message is looked at,
-- `heard..` what is tested in the message and what it then says, `made..` what is made of it, `..Of` the whole step.
use Rattle.std.specs.Prelude.{ℕ, Option, Some, None, Bool, true, not, ◌&&◌, List, [], eqb, leb, length, drop}
use Rattle.refusal.specs.Order.{Res, accept, need, and_then}
use Rattle.octets.specs.Equal.{same}
use Rattle.sha1_hmac.specs.Hash.{hmac_sha1}
use Rattle.keys.specs.Chosen.{key_of}
use Rattle.keys.specs.Codes.{role_name, code2, sik_of, code3, value4}
use Rattle.messages.specs.Auth.{is_level}
use Rattle.messages.specs.Name.{username_of, name_of, stored}
use Rattle.messages.specs.OpenSession.{Response, level_byte, open_request, open_response}
use Rattle.messages.specs.Rakp.{message1, message2, message3, message4}
use Rattle.messages.specs.declared.auth.AuthenticationAlgorithm as A
use Rattle.messages.specs.declared.auth.IntegrityAlgorithm as I
use Rattle.messages.specs.declared.auth.ConfidentialityAlgorithm as C
use Rattle.messages.specs.declared.rakp_1.RakpMessage1.{RakpMessage1}
use Rattle.messages.specs.declared.rakp_1.Username.{Username}
use Rattle.messages.specs.declared.rakp_2.RakpMessage2.{RakpMessage2}
use Rattle.messages.specs.declared.rakp_3.RakpMessage3.{RakpMessage3}
use Rattle.messages.specs.declared.rakp_4.RakpMessage4.{RakpMessage4}
use Rattle.session.specs.Constants.{open_tag, tag1, tag3, legal_kg, code_size, value_size, request_size, one_size, three_size}
use Rattle.session.specs.Record.{in_step, begun_of, begun_with, answered, keyed, opened}
use Rattle.session.specs.declared.Asked.{Asked}
use Rattle.session.specs.declared.Record.{Record}

-- what an accepted step makes: the next record, and the message to send
pub record Made : Type 0 where
  pub next : Record
  pub bytes : List ℕ

-- Begin
abbrev pub level_allowed : Option ℕ → Bool
level_allowed None = true
level_allowed (Some b) = is_level b

-- the request: RAKP-HMAC-SHA1, HMAC-SHA1-96 and AES-CBC-128 are asked for
unfoldable pub request_of : Asked → List ℕ
request_of asked =
    open_request
    (record {
      tag = open_tag;
      level = asked.level;
      console = asked.console;
      authentication = A.TheVariants.RakpHmacSha1;
      integrity = I.TheVariants.HmacSha1_96;
      confidentiality = C.TheVariants.AesCbc128;
    })

unfoldable pub ready_begin : Asked → Res Unit
ready_begin asked =
    need (not (eqb asked.console 0)) 20 0
    (need (level_allowed asked.level) 19 (level_byte asked.level)
    (accept tt))

unfoldable pub made_begin : Asked → Username → Made
made_begin asked username = record { next = begun_with (begun_of asked username); bytes = request_of asked }

unfoldable pub begin_of : Asked → List ℕ → ℕ → Res Made
begin_of asked name room =
    and_then (ready_begin asked) (λ _.
    and_then (username_of name) (λ n.
    need (leb request_size room) 15 0
    (accept (made_begin asked (stored n)))))

-- the open response
unfoldable pub ready_open : Record → ℕ → Res Unit
ready_open s room = need (in_step s 1) 33 0 (need (leb (one_size s.begun.username.len) room) 15 0 (accept tt))

-- the algorithms that this layer carries
unfoldable pub carried : Response → Bool
carried r = eqb r.authentication 1 && (leb r.integrity 1 && leb r.confidentiality 1)

unfoldable pub heard_open : Record → List ℕ → Res Response
heard_open s m =
    and_then (open_response m) (λ r.
    need (eqb r.tag open_tag) 27 0
    (need (eqb r.console s.begun.console) 28 0
    (need (carried r) 29 0
    (accept r))))

-- message 1 to the system with this id
abbrev pub one_to : ℕ → Record → List ℕ → RakpMessage1
one_to system s rm = record { tag = tag1; system = system; random = rm; role = s.begun.role; username = s.begun.username }

unfoldable pub made_open : Record → List ℕ → Response → Made
made_open s rm r = record { next = answered s r rm; bytes = message1 (one_to r.system s rm) }

unfoldable pub open_of : Record → List ℕ → List ℕ → ℕ → Res Made
open_of s m rm room = and_then (ready_open s room) (λ _. and_then (heard_open s m) (λ r. accept (made_open s rm r)))

-- message 2, for passwords of up to `most` bytes
unfoldable pub ready_two : ℕ → Record → List ℕ → List ℕ → ℕ → Res Unit
ready_two most s kg password room =
    need (in_step s 2) 33 0
    (need (legal_kg (length kg)) 35 0
    (need (leb (length password) most) 36 0
    (need (leb three_size room) 15 0
    (accept tt))))

unfoldable pub heard_two : Record → List ℕ → Res RakpMessage2
heard_two s m =
    and_then (message2 m) (λ f.
    need (eqb f.tag tag1) 27 0
    (need (eqb f.console s.begun.console) 28 0
    (need (eqb f.code.len code_size) 30 0
    (accept f))))

-- N of a record
unfoldable pub who : Record → List ℕ
who s = role_name s.begun.role (name_of s.begun.username)

-- the code that message 2 ought to carry
unfoldable pub code_two : Record → List ℕ → RakpMessage2 → List ℕ
code_two s password f = code2 hmac_sha1 password s.begun.console s.system s.rm f.random f.guid (who s)

unfoldable pub sik_two : Record → List ℕ → List ℕ → RakpMessage2 → List ℕ
sik_two s kg password f = sik_of hmac_sha1 (key_of kg password) s.rm f.random (who s)

unfoldable pub code_three : Record → List ℕ → RakpMessage2 → List ℕ
code_three s password f = code3 hmac_sha1 password f.random s.begun.console (who s)

-- message 3 before its code
abbrev pub three_of : Record → RakpMessage3
three_of s = record { tag = tag3; system = s.system }

unfoldable pub made_two : Record → List ℕ → List ℕ → RakpMessage2 → Made
made_two s kg password f =
    record { next = keyed s f.guid (sik_two s kg password f); bytes = message3 (three_of s) (code_three s password f) }

unfoldable pub proved_two : Record → List ℕ → List ℕ → List ℕ → RakpMessage2 → Res Made
proved_two s kg password m f = need (same (drop f.code.at m) (code_two s password f)) 31 0 (accept (made_two s kg password f))

unfoldable pub two_of : ℕ → Record → List ℕ → List ℕ → List ℕ → ℕ → Res Made
two_of most s kg password m room =
    and_then (ready_two most s kg password room) (λ _. and_then (heard_two s m) (λ f. proved_two s kg password m f))

-- message 4
unfoldable pub ready_four : Record → Res Unit
ready_four s = need (in_step s 3) 33 0 (accept tt)

unfoldable pub value_four : Record → List ℕ
value_four s = value4 hmac_sha1 value_size s.keys.sik s.rm s.system s.guid

unfoldable pub heard_four : Record → List ℕ → Res RakpMessage4
heard_four s m =
    and_then (message4 m) (λ f.
    need (eqb f.tag tag3) 27 0
    (need (eqb f.id s.begun.console) 28 0
    (need (same (drop f.value.at m) (value_four s)) 32 0
    (accept f))))

unfoldable pub four_of : Record → List ℕ → Res Made
four_of s m = and_then (ready_four s) (λ _. and_then (heard_four s m) (λ f. accept (record { next = opened s; bytes = [] })))
