-- Which rights message 2, and what is made of it, speak of (docs/RULES.md, 5.2 to 5.5 and 7.15).
use Rattle.std.specs.Prelude.{ℕ, List, ◌≡◌, drop}
use Rattle.octets.specs.Place.{part}
use Rattle.sha1_hmac.specs.Hash.{hmac_sha1}
use Rattle.keys.specs.Chosen.{key_of}
use Rattle.keys.specs.Codes.{code2, sik_of, code3}
use Rattle.keys.specs.Keys.{keys_of}
use Rattle.session.specs.Role.{who_asked}
use Rattle.session.specs.declared.Asked.{Asked}
use Rattle.session.specs.declared.Record.{Record}

-- the code in message 2, the code in message 3 and the keys of the record after it are all over N as Begin was given it: `two` is message 2,
-- with RC at 8, the GUID at 24 and its code from 40 on, `three` is message 3, with its code from 8 on; RM and the system's id are the record's
pub record Covers (asked : Asked) (name : List ℕ) (s : Record) (kg password two three : List ℕ) (after : Record) : Type 0 where
  pub code_2 : drop 40 two
      ≡ code2 hmac_sha1 password asked.console s.system s.rm (part two 8 16) (part two 24 16) (who_asked asked name)
  pub code_3 : drop 8 three ≡ code3 hmac_sha1 password (part two 8 16) asked.console (who_asked asked name)
  pub keys : after.keys ≡ keys_of (sik_of hmac_sha1 (key_of kg password) s.rm (part two 8 16) (who_asked asked name))
