-- The running hash by its calls' promises: a caller cites these, one line a piece.
use Prim.Native.Nat.{ℕ, ◌+◌, ◌/◌, ◌≤◌, ◌<◌}
use native.Mathlib.Omega.{arith}
use mathlib.Core.Bool.{cond}
use mathlib.Core.Path.{◌≡◌, ◌∙◌, ap}
use mathlib.Core.List.{List, [], ◌++◌}
use lib.ListN.{length}
use lib.Dec.{leb}
use borrow.Author.Tests.{le-leb, lt-leb}
use Rattle.refusal.specs.Order.{Res, refuse, accept}
use Rattle.hmac.specs.Pieces.{joined, feeds}
use Rattle.hmac.proofs.Nested.{run}
use Rattle.running.specs.Hash.{Hash, block_count, digest}
use Rattle.running.specs.Running.{State, taken, digest_of, count_of, after}
use Rattle.running.specs.Promise.{limit, FedPromise, EndPromise, HashPromise}
use Rattle.running.proofs.Takes.{taken_after, after_taken}
use Rattle.running.proofs.Ends.{digest_after, count_after, blocks_after, len_after}
use Rattle.running.proofs.Promised.{yes, no, say_yes, coded}

module _ {C : Type 0} (H : Hash C) where
  module _ (m s : List ℕ) {st : State C} {r : Res (State C)} (e : st ≡ after H m) (p : FedPromise H st s r) where
    st_len : st.len ≡ length m
    st_len = ap (λ (x : State C). x.len) e ∙ len_after H m

    -- a piece is taken while all bytes together are within the limit
    pub fed_after : length m + length s ≤ limit → r ≡ accept (after H (m ++ s))
    fed_after l =
        let z = st_len in
        yes p (le-leb (st.len + length s) limit (omega arith))
        ∙ ap accept (ap (λ (x : State C). taken H x s) e ∙ taken_after H m s (omega arith))

    -- a piece past the limit is 37
    pub refused_after : limit < length m + length s → r ≡ refuse 37 0
    refused_after l = let z = st_len in no p (lt-leb (st.len + length s) limit (omega arith))

  -- the blocks that the state after n bytes tells are the floor of n / 64
  pub told_after : (m : List ℕ) {st : State C} {k : ℕ} → st ≡ after H m → k ≡ st.blocks → k ≡ length m / 64
  told_after m e p = p ∙ ap (λ (x : State C). x.blocks) e ∙ blocks_after H m

  -- what `update` makes of a state
  abbrev pub updated : State C → List ℕ → State C
  updated st s = cond (leb (st.len + length s) limit) (taken H st s) st

  updated_after : (m s : List ℕ) → length m + length s ≤ limit → updated (after H m) s ≡ after H (m ++ s)
  updated_after m s l = rw (le-leb ((after H m).len + length s) limit (rw (len_after H m) l)) (taken_after H m s (omega arith))

  -- pieces in any cutting are their joined bytes
  pub pieces : (ps : List (List ℕ)) → length (joined ps) ≤ limit → feeds updated (after H []) ps ≡ after H (joined ps)
  pieces ps l = run (after H) updated limit updated_after [] ps (omega arith)

  module _ (m : List ℕ) where
    -- the end after the bytes of m is the hash of m
    pub finished_after : {st : State C} {r : Res (List ℕ × ℕ)} → st ≡ after H m → EndPromise H st r → length m ≤ limit → r ≡ accept (digest H m, block_count m)
    finished_after {st} e p l =
        let w : st.len ≡ length m = ap (λ (x : State C). x.len) e ∙ len_after H m in
        yes p (le-leb st.len limit (omega arith))
        ∙ ap accept (ap (λ (x : State C). (digest_of H x, count_of x)) e ∙ coded (digest_after H m) (count_after H m (omega arith)))

    -- all bytes in one call
    pub hashed_whole : {x y : State C} {c : List ℕ × ℕ} → length m ≤ limit → x ≡ after H [] → y ≡ taken H x m
        → c ≡ (digest_of H y, count_of y) → HashPromise H m (accept c)
    hashed_whole {x} {y} l e g p =
        let w : y ≡ after H m = g ∙ ap (λ (u : State C). taken H u m) e ∙ after_taken H m (omega arith) in
        say_yes (le-leb (length m) limit l)
        (ap accept (p ∙ ap (λ (u : State C). (digest_of H u, count_of u)) w ∙ coded (digest_after H m) (count_after H m (omega arith))))
