-- Bytes that are lent in pieces and fed one after another.
use Prim.Native.Nat.{ℕ, zero, suc, ◌+◌, ◌≤◌, ◌<◌}
use native.Mathlib.Omega.{arith}
use denote.Ref.{Bor}
use mathlib.Core.List.{List, [], ◌∷◌, ◌++◌, map, append_assoc, append-nil}
use mathlib.Core.Path.{◌≡◌, sym, ◌∙◌, ap}
use lib.ListN.{length, take, get_or, length-append}
use lib.Seq.{take_all}
use Rattle.std.proofs.lemmas.List.{length-map}
use Rattle.hmac.specs.Pieces.{joined}

-- the bytes of each piece; past the last there is one without any
abbrev pub each : List (Bor (List ℕ)) → List (List ℕ)
each ps = map (λ p. p.now) ps

abbrev pub at : List (Bor (List ℕ)) → ℕ → List ℕ
at ps i = (get_or ps i (record { ref_ptr = (0, 0); now = [] })).now

-- one piece more
pub joined_turn : (ps : List (Bor (List ℕ))) (i : ℕ) → i < length ps → joined (take (suc i) (each ps)) ≡ joined (take i (each ps)) ++ at ps i
unfolding joined
joined_turn [] i l = absurd (omega arith)
joined_turn (p ∷ ps) zero l = append-nil p.now
joined_turn (p ∷ ps) (suc i) l =
    ap (λ (t : List ℕ). p.now ++ t) (joined_turn ps i (omega arith)) ∙ sym (append_assoc p.now (joined (take i (each ps))) (at ps i))

joined_part : (ps : List (Bor (List ℕ))) (i : ℕ) → length (joined (take i (each ps))) ≤ length (joined (each ps))
unfolding joined
joined_part ps zero = omega arith
joined_part [] (suc i) = omega arith
joined_part (p ∷ ps) (suc i) =
    omega (arith, length-append p.now (joined (take i (each ps))), length-append p.now (joined (each ps)), joined_part ps i)

-- the pieces up to one and that one are no more than all
pub joined_room : (ps : List (Bor (List ℕ))) (i : ℕ) → i < length ps
    → length (joined (take i (each ps))) + length (at ps i) ≤ length (joined (each ps))
joined_room ps i l =
    omega (arith, joined_part ps (suc i), ap length (joined_turn ps i l), length-append (joined (take i (each ps))) (at ps i))

-- all of them
pub joined_all : (ps : List (Bor (List ℕ))) (i : ℕ) → length ps ≤ i → joined (take i (each ps)) ≡ joined (each ps)
joined_all ps i l = ap joined (take_all i (each ps) (rw (length-map ps (λ (p : Bor (List ℕ)). p.now)) l))
