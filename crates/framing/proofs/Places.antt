-- The payload call, one law for each way out of it.
use Prim.Native.Nat.{ℕ, ◌+◌, ◌-◌, ◌≤◌, ◌<◌}
use native.Mathlib.Omega.{arith}
use mathlib.Core.Bool.{Bool, true, false}
use mathlib.Core.List.{List, []}
use mathlib.Core.Path.{◌≡◌, sym, ◌∙◌, ap}
use lib.ListN.{length, take, drop}
use borrow.Author.Tests.{le-leb, lt-leb}
use Rattle.octets.specs.Place.{part}
use Rattle.framing.specs.Payload.{payload_start, payload_fits, payload_of, payload_at}
use Rattle.octets.proofs.Order.{cond_true, cond_false}

module _ (l : List ℕ) (b : Bool) (n a : ℕ) (e : a ≡ payload_start b) where
  module _ (h : a + n ≤ length l) where
    fits : payload_fits l b n ≡ true
    fits = le-leb (payload_start b + n) (length l) (omega arith)

    pub part_given : take (a + n - a) (drop a l) ≡ payload_of l b n
    unfolding payload_of
    part_given =
        let size : a + n - a ≡ n = omega arith in
        ap (λ (k : ℕ). take k (drop a l)) size ∙ ap (λ (k : ℕ). part l k n) e ∙ sym (cond_true (payload_fits l b n) (part l (payload_start b) n) [] fits)

    pub payload_at-fits : payload_at l b n ≡ a
    unfolding payload_at
    payload_at-fits = cond_true (payload_fits l b n) (payload_start b) 0 fits ∙ sym e

  module _ (h : length l < a + n) where
    passes : payload_fits l b n ≡ false
    passes = lt-leb (payload_start b + n) (length l) (omega arith)

    pub part_empty : [] ≡ payload_of l b n
    unfolding payload_of
    part_empty = sym (cond_false (payload_fits l b n) (part l (payload_start b) n) [] passes)

    pub part_none : payload_at l b n ≡ 0
    unfolding payload_at
    part_none = cond_false (payload_fits l b n) (payload_start b) 0 passes
