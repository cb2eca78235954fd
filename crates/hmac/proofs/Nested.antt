-- Running values of any hash: pieces in any cutting are their joined bytes, and two nested runs are HMAC.
use Prim.Native.Nat.{ℕ, ◌+◌, ◌≤◌}
use native.Mathlib.Omega.{arith}
use mathlib.Core.Path.{◌≡◌, sym, ◌∙◌, ap, ap₂}
use mathlib.Core.List.{List, [], ◌∷◌, ◌++◌, append_assoc, append-nil}
use lib.ListN.{length, length-append}
use Rattle.hmac.specs.Hmac.{xored, key_block, inner, outer, hmac}
use Rattle.hmac.specs.Pieces.{joined, feeds}

-- a run: `after m` is the value when the bytes of m are in, and up to a limit feeding keeps that
module _ {S : Type 0} (after : List ℕ → S) (feed : S → List ℕ → S) (limit : ℕ)
    (more : (m s : List ℕ) → length m + length s ≤ limit → feed (after m) s ≡ after (m ++ s)) where
  pub run : (m : List ℕ) (ps : List (List ℕ)) → length m + length (joined ps) ≤ limit → feeds feed (after m) ps ≡ after (m ++ joined ps)
  unfolding joined feeds
  run m [] l = ap after (sym (append-nil m))
  run m (p ∷ ps) l =
      let e : length m + (length p + length (joined ps)) ≤ limit = rw (length-append p (joined ps)) at l in
      let f : length m + length p ≤ limit = omega arith in
      let g : length (m ++ p) + length (joined ps) ≤ limit = rw (length-append m p) (omega arith) in
      ap (λ (x : S). feeds feed x ps) (more m p f) ∙ run (m ++ p) ps g ∙ ap after (append_assoc m p (joined ps))

-- the inner run gives H of its bytes, the outer one, begun with its key block o and closed with a code d, gives H of o and d
module _ {S T : Type 0} (H : List ℕ → List ℕ) (B : ℕ) (after : List ℕ → S) (done : S → List ℕ) (opened : List ℕ → T)
    (closed : T → List ℕ → List ℕ) where
  pub nested : (k m : List ℕ) (s : S) (t : T) → s ≡ after (inner H B k m) → t ≡ opened (xored 0x5c (key_block H B k))
      → done (after (inner H B k m)) ≡ H (inner H B k m)
      → closed (opened (xored 0x5c (key_block H B k))) (H (inner H B k m)) ≡ H (xored 0x5c (key_block H B k) ++ H (inner H B k m))
      → closed t (done s) ≡ hmac H B k m
  unfolding hmac outer
  nested k m s t e f p q = ap₂ closed f (ap done e ∙ p) ∙ q
