-- The step record (docs/RULES.md, 7.6, 7.9 and 7.15): in which step it is, what a closed one holds, and the records that the steps make.
use Rattle.std.specs.Prelude.{ℕ, Bool, true, false, ◌&&◌, List, eqb, leb, replicate}
use Rattle.suite.specs.declared.Confidentiality as C
use Rattle.suite.specs.declared.Integrity as I
use Rattle.keys.specs.Keys.{keys_of}
use Rattle.keys.specs.declared.keys.Keys.{Keys}
use Rattle.messages.specs.OpenSession.{Response}
use Rattle.messages.specs.declared.rakp_1.Username.{Username}
use Rattle.session.specs.Role.{role_asked}
use Rattle.session.specs.declared.Asked.{Asked}
use Rattle.session.specs.declared.Begun.{Begun}
use Rattle.session.specs.declared.Agreed.{Agreed}
use Rattle.session.specs.declared.Step.{Step}
use Rattle.session.specs.declared.Step.TheVariants.{Closed, OpenResponse, Message2, Message4, Open}
use Rattle.session.specs.declared.Record.{Record}

-- the number of each step, 0 where none is waited for
abbrev pub step_number : Step → ℕ
step_number Closed = 0
step_number OpenResponse = 1
step_number Message2 = 2
step_number Message4 = 3
step_number Open = 4

-- a record whose name is longer than its sixteen bytes is in no step
unfoldable pub in_step : Record → ℕ → Bool
in_step s k = eqb (step_number s.step) k && leb s.begun.username.len 16

unfoldable pub no_keys : Keys
no_keys = record { sik = replicate 20 0; k1 = replicate 20 0; k2 = replicate 20 0 }

-- before Begin, and before the open response
unfoldable pub none_begun : Begun
none_begun = record { console = 0; role = 0; username = record { bytes = replicate 16 0; len = 0 } }

unfoldable pub none_agreed : Agreed
none_agreed = record { confidentiality = C.TheVariants.None; integrity = I.TheVariants.None }

-- only zeros
unfoldable pub closed : Record
closed =
    record {
      step = Closed;
      begun = none_begun;
      system = 0;
      rm = replicate 16 0;
      guid = replicate 16 0;
      keys = no_keys;
      agreed = none_agreed;
    }

-- what Begin fixes: the console's own id, the role and the name
unfoldable pub begun_of : Asked → Username → Begun
begun_of asked username = record { console = asked.console; role = role_asked asked; username = username }

-- after Begin: what it fixed
unfoldable pub begun_with : Begun → Record
begun_with b =
    record {
      step = OpenResponse;
      begun = b;
      system = 0;
      rm = replicate 16 0;
      guid = replicate 16 0;
      keys = no_keys;
      agreed = none_agreed;
    }

-- the algorithms of the codes that are carried: 0 is none
abbrev pub confidentiality_if : Bool → C.Confidentiality
confidentiality_if true = C.TheVariants.None
confidentiality_if false = C.TheVariants.AesCbc128

abbrev pub integrity_if : Bool → I.Integrity
integrity_if true = I.TheVariants.None
integrity_if false = I.TheVariants.HmacSha1_96

-- what a response agrees to
unfoldable pub agreed_of : Response → Agreed
agreed_of r = record { confidentiality = confidentiality_if (eqb r.confidentiality 0); integrity = integrity_if (eqb r.integrity 0) }

-- after the open response: the system's id, the console's random number, the algorithms agreed
unfoldable pub answered : Record → Response → List ℕ → Record
answered s r rm =
    record {
      step = Message2;
      begun = s.begun;
      system = r.system;
      rm = rm;
      guid = s.guid;
      keys = s.keys;
      agreed = agreed_of r;
    }

-- after message 2: the system's GUID, and the keys that the SIK gives
unfoldable pub keyed : Record → List ℕ → List ℕ → Record
keyed s guid sik =
    record {
      step = Message4;
      begun = s.begun;
      system = s.system;
      rm = s.rm;
      guid = guid;
      keys = keys_of sik;
      agreed = s.agreed;
    }

-- after message 4: only the step changes
unfoldable pub opened : Record → Record
opened s =
    record {
      step = Open;
      begun = s.begun;
      system = s.system;
      rm = s.rm;
      guid = s.guid;
      keys = s.keys;
      agreed = s.agreed;
    }
