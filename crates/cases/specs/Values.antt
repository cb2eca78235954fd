-- What a field says (docs/REPLAY.md): bytes in lower-case hex, `-` for none; numbers in decimal; eight hex digits.
use Rattle.std.specs.Prelude.{ℕ, ◌+◌, Bool, ◌&&◌, cond, List, [], ◌∷◌, Option, Some, None, ◌≡◌, eqb, ltb, length}
use Rattle.octets.specs.Place.{fits, placed}
use Rattle.octets.specs.Equal.{same}
use Rattle.text.specs.Digits.{pairs}
use Rattle.text.specs.Promise.{hexed}
use Rattle.cases.specs.declared.values.Span.{Span}

-- `-`
abbrev pub dash : List ℕ
dash = 0x2d ∷ []

-- whether s is hex of one byte at least, all of which go into d from a on
unfoldable pub readable : List ℕ → ℕ → List ℕ → Bool
readable d a s = hexed s && (ltb 0 (length (pairs s)) && fits d a (length (pairs s)))

-- where the bytes that s says stand in d, into which they were read from a on; what says none is bad
unfoldable pub span_of : List ℕ → ℕ → List ℕ → Option Span
span_of d a s =
    cond (same s dash)
    (Some (record { from = a; to = a }))
    (cond (readable d a s) (Some (record { from = a; to = a + length (pairs s) })) None)

-- the field s was to be read as bytes, into d from a on
pub record BytesPromise (d : List ℕ) (a : ℕ) (s : List ℕ) (r : Option Span) (exit : List ℕ) : Type 0 where
  pub answer : r ≡ span_of d a s
  pub buffer : exit ≡ cond (hexed s) (placed d a (pairs s)) d

-- whether s says just n bytes
abbrev pub says : ℕ → List ℕ → Bool
says n s = hexed s && eqb (length (pairs s)) n

-- the field s was to be read as n bytes: what says another number of them is bad
pub record ExactPromise (n : ℕ) (s : List ℕ) (r : Option (List ℕ)) : Type 0 where
  pub answer : r ≡ cond (says n s) (Some (pairs s)) None

-- the most room that a call is lent
abbrev pub most_room : ℕ
most_room = 70000
