-- What putting bytes at a place promises (docs/RULES.md, 2.5).
use Rattle.std.specs.Prelude.{ℕ, Bool, List, ◌≡◌, length}
use Rattle.octets.specs.Place.{fits, placed}

-- s was to be put into d at a: the answer r, and what the buffer holds at exit
pub record PutPromise (d : List ℕ) (a : ℕ) (s : List ℕ) (r : Bool) (exit : List ℕ) : Type 0 where
  pub answer : r ≡ fits d a (length s)
  pub buffer : exit ≡ placed d a s
