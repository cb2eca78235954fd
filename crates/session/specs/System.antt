-- The other side: a managed system that follows the Standard (13.17 to 13.24 and 13.28 to 13.32; docs/RULES.md, section 5). What it
-- sends is a function of its own choices and of the bytes that the console sent. Nothing here is run: the theorems over a whole
-- exchange are said against it.
use Rattle.std.specs.Prelude.{ℕ, ◌+◌, ◌%◌, ◌^◌, ◌≤◌, ◌<◌, true, List, ◌∷◌, ◌++◌, ◌⊎◌, ◌≡◌, eqb, length, get_or, drop, replicate}
use Rattle.octets.specs.Number.{le, unle}
use Rattle.octets.specs.Place.{part}
use Rattle.sha1_hmac.specs.Hash.{hmac_sha1}
use Rattle.keys.specs.Chosen.{key_of}
use Rattle.keys.specs.Codes.{role_name, code2, sik_of, code3, value4}
use Rattle.keys.specs.Keys.{keys_of}
use Rattle.keys.specs.declared.keys.Keys.{Keys}
use Rattle.messages.specs.Auth.{is_level}
use Rattle.messages.specs.Block.{block_bytes}
use Rattle.messages.specs.Name.{allowed}
use Rattle.session.specs.Constants.{kg_size, code_size, value_size}
use Rattle.session.specs.Record.{confidentiality_if, integrity_if}
use Rattle.session.specs.declared.Agreed.{Agreed}

-- its session id, the highest level it allows, the codes of the algorithms it chose, RC, its GUID, the user's password, and its
-- Kg, empty where it has none
pub record System : Type 0 where
  pub id : ℕ
  pub level : ℕ
  pub integrity : ℕ
  pub confidentiality : ℕ
  pub random : List ℕ
  pub guid : List ℕ
  pub password : List ℕ
  pub kg : List ℕ

-- values that the Standard allows, and algorithms that this layer carries
pub record Regular (y : System) : Type 0 where
  pub id : y.id ≡ 0 → ⊥
  pub small : y.id < 2 ^ 32
  pub level : is_level y.level ≡ true
  pub integrity : y.integrity ≤ 1
  pub confidentiality : y.confidentiality ≤ 1
  pub random : length y.random ≡ 16
  pub guid : length y.guid ≡ 16
  pub kg : (length y.kg ≡ 0) ⊎ (length y.kg ≡ kg_size)

-- what it hears: in the request the level at 1 and the console's id at 4; in message 1 RM at 8 and N, the role at 24, the name's
-- length at 27 and the name from 28 on
abbrev pub level_in : List ℕ → ℕ
level_in request = get_or request 1 0

unfoldable pub sidm_in : List ℕ → ℕ
sidm_in request = unle (part request 4 4)

unfoldable pub rm_in : List ℕ → List ℕ
rm_in one = part one 8 16

abbrev pub role_in : List ℕ → ℕ
role_in one = get_or one 24 0

abbrev pub name_size_in : List ℕ → ℕ
name_size_in one = get_or one 27 0

abbrev pub name_in : List ℕ → List ℕ
name_in one = part one 28 (name_size_in one)

unfoldable pub who_in : List ℕ → List ℕ
who_in one = role_name (role_in one) (name_in one)

-- which request it takes (13.17), however strict it is about the form: 32 bytes, a level of at most 5 whose high bits are zero, zeros
-- where bytes are reserved, an id that is not zero, and the suite that every system must have, RAKP-HMAC-SHA1, HMAC-SHA1-96 and
-- AES-CBC-128, in three whole blocks. The tag is the console's; that the level and the suite are granted is the system's own choice
pub record TakesRequest (request : List ℕ) : Type 0 where
  pub size : length request ≡ 32
  pub level : level_in request ≤ 5
  pub reserved : part request 2 2 ≡ replicate 2 0
  pub console : sidm_in request ≡ 0 → ⊥
  pub authentication : part request 8 8 ≡ block_bytes 0 1
  pub integrity : part request 16 8 ≡ block_bytes 1 1
  pub confidentiality : part request 24 8 ≡ block_bytes 2 1

-- what comes first in each of its RAKP messages: the tag of the message that it answers, status 0, two reserved zeros, the
-- console's id
abbrev pub head_to : List ℕ → List ℕ → List ℕ
head_to request heard = get_or heard 0 0 ∷ 0 ∷ 0 ∷ 0 ∷ le 4 (sidm_in request)

-- the open response: the tag, status 0, the level, a reserved zero, both ids, RAKP-HMAC-SHA1 and what it chose
unfoldable pub response : System → List ℕ → List ℕ
response y request =
    (get_or request 0 0 ∷ 0 ∷ y.level ∷ 0 ∷ le 4 (sidm_in request))
    ++ le 4 y.id
    ++ block_bytes 0 1
    ++ block_bytes 1 y.integrity
    ++ block_bytes 2 y.confidentiality

-- its code in message 2
unfoldable pub code_in : System → List ℕ → List ℕ → List ℕ
code_in y request one =
    code2 hmac_sha1 y.password (sidm_in request) y.id (rm_in one) y.random y.guid (who_in one)

unfoldable pub second : System → List ℕ → List ℕ → List ℕ
second y request one = head_to request one ++ y.random ++ y.guid ++ code_in y request one

-- the SIK and the keys
unfoldable pub sik_in : System → List ℕ → List ℕ
sik_in y one = sik_of hmac_sha1 (key_of y.kg y.password) (rm_in one) y.random (who_in one)

unfoldable pub keys_in : System → List ℕ → Keys
keys_in y one = keys_of (sik_in y one)

-- the algorithms that it chose
unfoldable pub agreed_in : System → Agreed
agreed_in y = record { confidentiality = confidentiality_if (eqb y.confidentiality 0); integrity = integrity_if (eqb y.integrity 0) }

-- which message 1 it takes (13.20): one that ends with its name, has zeros where bytes are reserved, its id, a role of 1 to 5 beside
-- the bit that asks for a lookup by name alone, and a name of at most 16 bytes, each ASCII and not zero
pub record TakesOne (y : System) (one : List ℕ) : Type 0 where
  pub size : length one ≡ 28 + name_size_in one
  pub reserved : part one 1 3 ≡ replicate 3 0
  pub system : unle (part one 4 4) ≡ y.id
  pub role : is_level (role_in one % 16) ≡ true
  pub lookup : role_in one < 32
  pub unread : part one 25 2 ≡ replicate 2 0
  pub short : name_size_in one ≤ 16
  pub name : allowed (name_in one) ≡ true

-- which message 3 it takes (13.22): one that ends with its code, has status 0, zeros where bytes are reserved, its id, and the code
-- that it computes itself
pub record TakesThree (y : System) (request one three : List ℕ) : Type 0 where
  pub size : length three ≡ 8 + code_size
  pub status : get_or three 1 0 ≡ 0
  pub reserved : part three 2 2 ≡ replicate 2 0
  pub system : unle (part three 4 4) ≡ y.id
  pub code : drop 8 three ≡ code3 hmac_sha1 y.password y.random (sidm_in request) (who_in one)

-- its check value, and message 4
unfoldable pub value_in : System → List ℕ → List ℕ
value_in y one = value4 hmac_sha1 value_size (sik_in y one) (rm_in one) y.id y.guid

unfoldable pub fourth : System → List ℕ → List ℕ → List ℕ → List ℕ
fourth y request one three = head_to request three ++ value_in y one
