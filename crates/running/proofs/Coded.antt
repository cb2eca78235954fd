-- The running HMAC by its calls' promises: a caller cites these, one line a piece.
use Prim.Native.Nat.{ℕ, ◌+◌, ◌/◌, ◌≤◌, ◌<◌}
use native.Mathlib.Omega.{arith}
use mathlib.Core.Bool.{cond}
use mathlib.Core.Path.{◌≡◌, ◌∙◌, ap}
use mathlib.Core.List.{List, [], ◌++◌}
use lib.ListN.{length}
use lib.Dec.{leb}
use borrow.Author.Tests.{le-leb, lt-leb}
use Rattle.refusal.specs.Order.{Res, refuse, accept}
use Rattle.hmac.specs.Pieces.{joined, feeds}
use Rattle.hmac.proofs.Nested.{run}
use Rattle.running.specs.Hash.{Hash, Sized}
use Rattle.running.specs.Mac.{MacState, hmac_of, hmac_blocks_of, key_blocks_of, mac_after, mac_taken, mac_running, mac_digest, mac_count}
use Rattle.running.specs.Promise.{limit, inner_limit, BegunPromise, MacFedPromise, MacEndPromise, HmacPromise}
use Rattle.running.proofs.Macs.{mac_digest_after, mac_count_after, mac_taken_after, mac_len_after, mac_running_after}
use Rattle.running.proofs.Promised.{yes, no, say_yes, both, coded}

module _ {C : Type 0} (H : Hash C) (ok : Sized H) where
  module _ (key : List ℕ) {r : Res (MacState C)} (p : BegunPromise H key r) where
    -- a key within the limit begins
    pub mac_begun : length key ≤ limit → r ≡ accept (mac_after H key [])
    mac_begun l = yes p (le-leb (length key) limit l)

    -- a key past the limit is 37
    pub mac_refused : limit < length key → r ≡ refuse 37 0
    mac_refused l = no p (lt-leb (length key) limit l)

  module _ (key m s : List ℕ) {st : MacState C} {r : Res (MacState C)} (e : st ≡ mac_after H key m) (p : MacFedPromise H st s r) where
    inner_len : st.inner.len ≡ 64 + length m
    inner_len = ap (λ (x : MacState C). x.inner.len) e ∙ mac_len_after H ok key m

    -- a piece is taken while the message is within the limit
    pub mac_more : length m + length s ≤ limit → r ≡ accept (mac_after H key (m ++ s))
    mac_more l =
        let z = inner_len in
        yes p (le-leb (st.inner.len + length s) inner_limit (omega arith))
        ∙ ap accept (ap (λ (x : MacState C). mac_taken H x s) e ∙ mac_taken_after H ok key m s l)

    -- a piece past it is 37
    pub mac_past : limit < length m + length s → r ≡ refuse 37 0
    mac_past l = let z = inner_len in no p (lt-leb (st.inner.len + length s) inner_limit (omega arith))

  -- the blocks that the state tells: the key's, the two key blocks and the floor of n / 64
  pub mac_told : (key m : List ℕ) {st : MacState C} {k : ℕ} → st ≡ mac_after H key m → k ≡ mac_running st → length key ≤ limit → length m ≤ limit
      → k ≡ key_blocks_of H key + 2 + length m / 64
  mac_told key m e p lk lm = p ∙ ap mac_running e ∙ mac_running_after H ok key m lk lm

  -- what `feed` makes of a state
  abbrev pub mac_fed : MacState C → List ℕ → MacState C
  mac_fed st s = cond (leb (st.inner.len + length s) inner_limit) (mac_taken H st s) st

  fed_more : (key m s : List ℕ) → length m + length s ≤ limit → mac_fed (mac_after H key m) s ≡ mac_after H key (m ++ s)
  fed_more key m s l =
      let z : (mac_after H key m).inner.len ≡ 64 + length m = mac_len_after H ok key m in
      let h : (mac_after H key m).inner.len + length s ≤ inner_limit = omega arith in
      rw (le-leb ((mac_after H key m).inner.len + length s) inner_limit h) (mac_taken_after H ok key m s l)

  -- pieces in any cutting are their joined bytes
  pub mac_pieces : (key : List ℕ) (ps : List (List ℕ)) → length (joined ps) ≤ limit
      → feeds mac_fed (mac_after H key []) ps ≡ mac_after H key (joined ps)
  mac_pieces key ps l = run (mac_after H key) mac_fed limit (fed_more key) [] ps (omega arith)

  module _ (key m : List ℕ) where
    -- the end is HMAC of the key and the message
    pub mac_code : {st : MacState C} {r : Res (List ℕ × ℕ)} → st ≡ mac_after H key m → MacEndPromise H st r → length key ≤ limit → length m ≤ limit
        → r ≡ accept (hmac_of H key m, hmac_blocks_of H key m)
    mac_code {st} e p lk lm =
        let w : st.inner.len ≡ 64 + length m = ap (λ (x : MacState C). x.inner.len) e ∙ mac_len_after H ok key m in
        yes p (le-leb st.inner.len inner_limit (omega arith))
        ∙ ap accept
        (ap (λ (x : MacState C). (mac_digest H x, mac_count x)) e ∙ coded (mac_digest_after H ok key m) (mac_count_after H ok key m lk lm))

    -- in one call
    pub mac_whole : {r : Res (List ℕ × ℕ)} → HmacPromise H key m r → length key ≤ limit → length m ≤ limit → r ≡ accept (hmac_of H key m, hmac_blocks_of H key m)
    mac_whole p lk lm = yes p (both (leb (length key) limit) (leb (length m) limit) (le-leb (length key) limit lk) (le-leb (length m) limit lm))

    -- the one call's way
    pub mac_one : {x y : MacState C} {c : List ℕ × ℕ} → length key ≤ limit → length m ≤ limit → x ≡ mac_after H key [] → y ≡ mac_taken H x m
        → c ≡ (mac_digest H y, mac_count y) → HmacPromise H key m (accept c)
    mac_one {x} {y} lk lm e g p =
        let w : y ≡ mac_after H key m = g ∙ ap (λ (u : MacState C). mac_taken H u m) e ∙ mac_taken_after H ok key [] m (omega arith) in
        say_yes (both (leb (length key) limit) (leb (length m) limit) (le-leb (length key) limit lk) (le-leb (length m) limit lm))
        (ap accept
        (p ∙ ap (λ (u : MacState C). (mac_digest H u, mac_count u)) w ∙ coded (mac_digest_after H ok key m) (mac_count_after H ok key m lk lm)))
