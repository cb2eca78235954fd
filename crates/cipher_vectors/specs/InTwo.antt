-- A text in two goes, as the program makes them (docs/RULES.md, 4.3.3).
use Rattle.std.specs.Prelude.{ℕ, ◌%◌, ◌≤◌, List, ◌≡◌, length}

-- one go of f over the bytes d under iv: the IV of the next, and what the buffer holds at exit
pub record Went (f after : List ℕ → List ℕ → List ℕ) (iv d next exit : List ℕ) : Type 0 where
  pub made : exit ≡ f iv d
  pub handed : next ≡ after iv d

-- whole blocks, cut behind whole blocks
pub record Cut (k : ℕ) (s : List ℕ) : Type 0 where
  pub blocks : k % 16 ≡ 0
  pub within : k ≤ length s
  pub whole : length s % 16 ≡ 0
