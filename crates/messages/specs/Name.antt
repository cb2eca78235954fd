-- The user's name (docs/RULES.md, 7.12 and 7.14): at most 16 bytes, each of them ASCII and not zero. It is taken whole or refused.
use Rattle.std.specs.Prelude.{ℕ, ◌-◌, Bool, true, not, ◌&&◌, List, [], ◌∷◌, ◌++◌, eqb, leb, ltb, length, take, replicate}
use Rattle.refusal.specs.Order.{Res, accept, need}
use Rattle.messages.specs.declared.rakp_1.Username.{Username}

-- whether every byte may stand in a name
abbrev pub allowed : List ℕ → Bool
allowed [] = true
allowed (b ∷ l) = not (eqb b 0) && (ltb b 128 && allowed l)

-- how many bytes a name may have
abbrev pub longest_name : ℕ
longest_name = 16

-- the name that a user has typed: its length is tested first, then its bytes
unfoldable pub username_of : List ℕ → Res (List ℕ)
username_of l = need (leb (length l) longest_name) 40 0 (need (allowed l) 34 0 (accept l))

-- the name that a record holds: a length over 16 counts as 16, for there are no more bytes
unfoldable pub name_of : Username → List ℕ
name_of u = take u.len u.bytes

-- a name as a record holds it: zeros after it
unfoldable pub stored : List ℕ → Username
stored n = record { bytes = n ++ replicate (16 - length n) 0; len = length n }
