-- What the calls that write and read text promise (docs/RULES.md, 9.1 to 9.3 and 9.5).
use Rattle.std.specs.Prelude.{ℕ, ◌+◌, ◌%◌, Bool, true, false, ◌&&◌, not, cond, List, Option, Some, None, Result, Ok, Err, ◌≡◌, leb, eqb, ltb, length}
use Rattle.octets.specs.Place.{fits, pasted, placed}
use Rattle.text.specs.Digits.{digits, value, pairs}
use Rattle.text.specs.declared.write.Cursor.{Cursor}
use Rattle.text.specs.declared.read.UnhexError.{UnhexError}
use Rattle.text.specs.declared.read.UnhexError.TheVariants.{Bad, NoRoom}

-- whether n bytes more go at the cursor into a buffer of m bytes
unfoldable pub takes : Cursor → ℕ → ℕ → Bool
takes c m n = not c.full && leb (c.at + n) m

-- the cursor after n bytes went in, or did not
abbrev pub moved : Bool → Cursor → ℕ → Cursor
moved t c n = cond t (record { at = c.at + n; full = false }) (record { at = c.at; full = true })

-- s was to be added to d at the cursor c: all of it goes in, or nothing changes and from then on nothing more does
pub record AddPromise (d : List ℕ) (c : Cursor) (s : List ℕ) (r : Cursor) (exit : List ℕ) : Type 0 where
  pub cursor : r ≡ moved (takes c (length d) (length s)) c (length s)
  pub buffer : exit ≡ cond (takes c (length d) (length s)) (pasted d c.at s) d

-- whether s is a number in the base b: at least one character, and each a digit
unfoldable pub numeral : ℕ → List ℕ → Bool
numeral b s = ltb 0 (length s) && digits b s

-- the number that s is in the base b, if it is one and at most `most`
unfoldable pub number_in : ℕ → ℕ → List ℕ → Option ℕ
number_in b most s = cond (numeral b s && leb (value b 0 s) most) (Some (value b 0 s)) None

-- the number that eight hex digits are
unfoldable pub word_in : List ℕ → Option ℕ
word_in s = cond (eqb (length s) 8 && digits 16 s) (Some (value 16 0 s)) None

-- whether s is bytes in hex: two digits each
unfoldable pub hexed : List ℕ → Bool
hexed s = eqb (length s % 2) 0 && digits 16 s

-- s was to be read as bytes in hex, into d at a
pub record UnhexPromise (d : List ℕ) (a : ℕ) (s : List ℕ) (r : Result ℕ UnhexError) (exit : List ℕ) : Type 0 where
  pub answer : r ≡ cond (hexed s) (cond (fits d a (length (pairs s))) (Ok (length (pairs s))) (Err NoRoom)) (Err Bad)
  pub buffer : exit ≡ cond (hexed s) (placed d a (pairs s)) d
