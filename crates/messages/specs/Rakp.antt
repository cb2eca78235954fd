-- RAKP messages (docs/RULES.md, 7.2, 7.4, 7.5; the Standard, 13.20 to 13.23).
use Rattle.std.specs.Prelude.{ℕ, ◌-◌, not, List, [], ◌∷◌, ◌++◌, eqb, leb, length, get_or}
use Rattle.refusal.specs.Order.{Res, accept, need, and_then}
use Rattle.octets.specs.Number.{le, unle}
use Rattle.octets.specs.Place.{part}
use Rattle.messages.specs.Name.{name_of}
use Rattle.messages.specs.Status.{status_number, names2, names4}
use Rattle.messages.specs.declared.rakp_1.RakpMessage1.{RakpMessage1}
use Rattle.messages.specs.declared.rakp_2.RakpMessage2.{RakpMessage2}
use Rattle.messages.specs.declared.rakp_3.RakpMessage3.{RakpMessage3}
use Rattle.messages.specs.declared.rakp_4.RakpMessage4.{RakpMessage4}

-- messages 2 and 4: under 4 bytes 1; the status at 1 (2 and 3 are reserved); under the fixed part's bytes 1; the id at 4 zero
unfoldable pub checked : List ℕ → ℕ → ℕ → ℕ → List ℕ → Res Unit
checked names fixed number value m =
    need (leb 4 (length m)) 1 0
    (need (eqb (get_or m 1 0) 0) (status_number names (get_or m 1 0)) (get_or m 1 0)
    (need (leb fixed (length m)) 1 0
    (need (not (eqb (unle (part m 4 4)) 0)) number value
    (accept tt))))

-- where message 2's code begins: the length of its fixed part
abbrev pub code_at2 : ℕ
code_at2 = 40

-- where message 4's check value begins, likewise
abbrev pub value_at4 : ℕ
value_at4 = 8

-- message 2: the tag; the console's id at 4, the system's random number at 8, its GUID at 24, its code last
unfoldable pub fields2 : List ℕ → RakpMessage2
fields2 m =
    record {
      tag = get_or m 0 0;
      console = unle (part m 4 4);
      random = part m 8 16;
      guid = part m 24 16;
      code = record { at = code_at2; len = length m - code_at2 };
    }

unfoldable pub message2 : List ℕ → Res RakpMessage2
message2 m = and_then (checked names2 code_at2 20 0 m) (λ _. accept (fields2 m))

-- message 4: the tag; an id at 4; the check value last
unfoldable pub fields4 : List ℕ → RakpMessage4
fields4 m = record { tag = get_or m 0 0; id = unle (part m 4 4); value = record { at = value_at4; len = length m - value_at4 } }

unfoldable pub message4 : List ℕ → Res RakpMessage4
message4 m = and_then (checked names4 value_at4 21 0 m) (λ _. accept (fields4 m))

-- message 1: tag, three zeros, system id, the console's random number, role, two zeros, the name's length, the name
unfoldable pub message1 : RakpMessage1 → List ℕ
message1 s =
    (s.tag ∷ 0 ∷ 0 ∷ 0 ∷ le 4 s.system)
    ++ s.random
    ++ (s.role ∷ 0 ∷ 0 ∷ length (name_of s.username) ∷ [])
    ++ name_of s.username

-- message 3: tag, status 0, two zeros, system id, the code
unfoldable pub message3 : RakpMessage3 → List ℕ → List ℕ
message3 s code = (s.tag ∷ 0 ∷ 0 ∷ 0 ∷ le 4 s.system) ++ code

-- message 3 that declines: the status 0F, and no code
unfoldable pub declined3 : RakpMessage3 → List ℕ
declined3 s = s.tag ∷ 0x0f ∷ 0 ∷ 0 ∷ le 4 s.system
