-- Opening a session (docs/RULES.md, 7.1 and 7.2; the Standard, 13.17 and 13.18): the request's bytes, the response's order.
use Rattle.std.specs.Prelude.{ℕ, not, Option, unwrap_or, List, ◌∷◌, ◌++◌, eqb, leb, length, get_or}
use Rattle.refusal.specs.Order.{Res, accept, need, and_then}
use Rattle.octets.specs.Number.{le, unle}
use Rattle.octets.specs.Place.{part}
use Rattle.messages.specs.Auth.{authentication_code, integrity_code, confidentiality_code, is_level}
use Rattle.messages.specs.Block.{block_of, of_type, block_bytes}
use Rattle.messages.specs.Status.{status_number, names_open}
use Rattle.messages.specs.declared.open_session.OpenSessionRequest.{OpenSessionRequest}
use Rattle.messages.specs.declared.open_session.OpenSessionResponse.{OpenSessionResponse}

-- the level that is asked for, 0 where none is
abbrev pub level_byte : Option ℕ → ℕ
level_byte level = unwrap_or level 0

-- the request: tag, level, two zeros, the console's id, three blocks
unfoldable pub open_request : OpenSessionRequest → List ℕ
open_request s =
    (s.tag ∷ level_byte s.level ∷ 0 ∷ 0 ∷ le 4 s.console)
    ++ block_bytes 0 (authentication_code s.authentication)
    ++ block_bytes 1 (integrity_code s.integrity)
    ++ block_bytes 2 (confidentiality_code s.confidentiality)

-- what a response says, the algorithms by their codes
pub record Response : Type 0 where
  pub tag : ℕ
  pub level : ℕ
  pub console : ℕ
  pub system : ℕ
  pub authentication : ℕ
  pub integrity : ℕ
  pub confidentiality : ℕ

-- under 2 bytes 1; the status at 1; not 36 bytes 1; the level at 2; the console's id at 4 zero 20; the system's at 8 zero 21
unfoldable pub open_checked : List ℕ → Res Unit
open_checked m =
    need (leb 2 (length m)) 1 0
    (need (eqb (get_or m 1 0) 0) (status_number names_open (get_or m 1 0)) (get_or m 1 0)
    (need (eqb (length m) 36) 1 0
    (need (is_level (get_or m 2 0)) 19 (get_or m 2 0)
    (need (not (eqb (unle (part m 4 4)) 0)) 20 0
    (need (not (eqb (unle (part m 8 4)) 0)) 21 0
    (accept tt))))))

-- the response's numbers at their places, with the codes that the blocks say
unfoldable pub open_numbers : List ℕ → ℕ → ℕ → ℕ → Response
open_numbers m a i c =
    record {
      tag = get_or m 0 0;
      level = get_or m 2 0;
      console = unle (part m 4 4);
      system = unle (part m 8 4);
      authentication = a;
      integrity = i;
      confidentiality = c;
    }

-- the blocks at 12, 20 and 28 in turn
unfoldable pub open_fields : List ℕ → Res Response
open_fields m =
    and_then (of_type 0 (block_of (part m 12 8))) (λ a.
    and_then (of_type 1 (block_of (part m 20 8))) (λ i.
    and_then (of_type 2 (block_of (part m 28 8))) (λ c.
    accept (open_numbers m a i c))))

-- the whole response
unfoldable pub open_response : List ℕ → Res Response
open_response m = and_then (open_checked m) (λ _. open_fields m)

-- what an answered response says
unfoldable pub response_numbers : OpenSessionResponse → Response
response_numbers r =
    record {
      tag = r.tag;
      level = r.level;
      console = r.console;
      system = r.system;
      authentication = authentication_code r.authentication;
      integrity = integrity_code r.integrity;
      confidentiality = confidentiality_code r.confidentiality;
    }
