-- Parts of a line, and its fields, which are parted by one space (docs/REPLAY.md; docs/RULES.md, 9.4).
use Rattle.std.specs.Prelude.{ℕ, zero, suc, ◌+◌, ◌-◌, Bool, ◌&&◌, cond, List, [], ◌∷◌, leb, ltb, length, get_or, drop}
use Rattle.octets.specs.Place.{part}
use Rattle.octets.specs.Equal.{same}
use Rattle.text.specs.Fields.{upto, cut}

-- whether l has a part from a up to e
abbrev pub lies : List ℕ → ℕ → ℕ → Bool
lies l a e = leb a e && leb e (length l)

-- that part; nothing where there is none
unfoldable pub part_of : List ℕ → ℕ → ℕ → List ℕ
part_of l a e = cond (lies l a e) (part l a (e - a)) []

-- where in l it begins
unfoldable pub part_at : List ℕ → ℕ → ℕ → ℕ
part_at l a e = cond (lies l a e) a 0

-- behind the next separator c from a on; the end of l where there is none
unfoldable pub past_of : ℕ → List ℕ → ℕ → ℕ
past_of c l a =
    cond (ltb (a + length (upto c (drop a l))) (length l)) (a + length (upto c (drop a l)) + 1) (length l)

-- what stands behind the k-th separator c; nothing where there are fewer
abbrev pub behind : ℕ → ℕ → List ℕ → List ℕ
behind c zero l = l
behind c (suc k) l = drop (suc (length (upto c (behind c k l)))) (behind c k l)

-- where in l that begins
unfoldable pub behind_at : ℕ → ℕ → List ℕ → ℕ
behind_at c k l = length l - length (behind c k l)

-- the field that k others stand before; nothing where there is none
unfoldable pub field_of : List ℕ → ℕ → List ℕ
field_of l k = get_or (cut 0x20 l) k []

-- how many words stand before the first that is s; all of them where none is
abbrev pub place_of : List ℕ → List (List ℕ) → ℕ
place_of s [] = 0
place_of s (w ∷ ws) = cond (same w s) 0 (suc (place_of s ws))
