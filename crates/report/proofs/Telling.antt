-- Laws of what is told of a packet: one for each answer of the reader's call, and the line by the numbers.
use Prim.Native.Nat.{ℕ, ◌≤◌, ◌<◌}
use native.Mathlib.Omega.{arith}
use mathlib.Core.List.{List, [], ◌∷◌}
use mathlib.Core.Path.{◌≡◌, refl, sym, ◌∙◌, ap}
use lib.ListN.{length}
use borrow.Author.Tests.{le-leb, lt-leb, lt-ltb, le-ltb}
use Rattle.refusal.specs.Order.{refuse, need, and_then}
use Rattle.refusal.proofs.Order.{pass, need_no}
use Rattle.suite.specs.Session.{suite_of}
use Rattle.framing.specs.Known.{known}
use Rattle.framing.specs.Read.{read_of, read_with, head_of, rest_of, payload_behind, before_trailer, body_in, payload_in}
use Rattle.framing.specs.Told.{shown}
use Rattle.reader.specs.Answers.{read_told, Tells}
use Rattle.suite.specs.declared.SubState.{SubState}
use Rattle.reader.specs.declared.Read.{Read}
use Rattle.text.specs.Line.{line_of, packet_line}
use Rattle.text.specs.Promise.{AddPromise}
use Rattle.text.proofs.Writing.{add_of}
use Rattle.text.specs.declared.write.Cursor.{Cursor}
use Rattle.text.specs.declared.line.Packet.{Packet}
use Rattle.refusal.specs.declared.Refusal.{Refusal}
use Rattle.std.specs.Prelude.{Result, Ok, Err}
use Rattle.report.specs.Told.{longest, plain, Bare, found, line_for, told, numbers_told}
use Rattle.report.proofs.Keyless.{any_keys}

module _ (l : List ℕ) where
  -- no byte
  pub none : length l ≡ 0 → refuse 1 0 ≡ found l
  unfolding found
  none e = let h : length l ≤ 0 = omega arith in sym (need_no _ _ _ _ (le-ltb 0 (length l) h))

  -- too many
  pub long : longest < length l → refuse 15 0 ≡ found l
  unfolding found
  long h =
      let g : 0 < length l = omega arith in
      sym (pass _ _ _ _ (lt-ltb 0 (length l) g) (need_no _ _ _ _ (lt-leb (length l) longest h)))

  -- any other number: what the reader finds
  pub within : 0 < length l → length l ≤ longest → shown (read_of plain l) ≡ found l
  unfolding found
  within g h = sym (pass _ _ _ _ (lt-ltb 0 (length l) g) (pass _ _ _ _ (le-leb (length l) longest h) refl))

-- a packet that was read
pub finds : (l : List ℕ) (s : SubState) (n : ℕ) (r : Read) (t : Result Packet Refusal)
    → 0 < length l → length l ≤ longest → Bare s → Tells (read_of (suite_of s) l) n r → numbers_told t ≡ read_told r.answer
    → numbers_told t ≡ found l
finds l s n r t g h b p e = e ∙ p.answer ∙ ap shown (any_keys s b l) ∙ within l g h

-- a telling's line is the line of its numbers
line_told : (t : Result Packet Refusal) → line_of t ≡ line_for (numbers_told t)
line_told (Ok p) = refl
line_told (Err r) = refl

-- the line of what was found is the line of the packet
pub tells : (l d : List ℕ) (c r : Cursor) (t : Result Packet Refusal) (exit : List ℕ)
    → numbers_told t ≡ found l → AddPromise d c (line_of t) r exit → AddPromise d c (told l) r exit
unfolding told
tells l d c r t exit e p = add_of d c (line_of t) (told l) r exit (line_told t ∙ ap line_for e) p

-- the packet that rule 8.1 shows; text's `first_line` has the characters of its line
pub first_packet :
    told (0x06 ∷ 0x00 ∷ 0x0D ∷ 0x0C ∷ 0x0B ∷ 0x0A ∷ 0x01 ∷ 0x00 ∷ 0x00 ∷ 0x00 ∷ 0x02 ∷ 0x00 ∷ 0xAA ∷ 0xBB ∷ [])
    ≡ packet_line 0 0x0a0b0c0d 1 2
unfolding told found need and_then shown read_of read_with head_of rest_of payload_behind before_trailer body_in payload_in known
first_packet = refl
