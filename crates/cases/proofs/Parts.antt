-- Laws of a part of a line: one for each way out of `pick_part`, and the part that goes to the line's end.
use Prim.Native.Nat.{ℕ, ◌-◌, ◌≤◌, ◌<◌}
use mathlib.Core.List.{List, []}
use mathlib.Core.Path.{◌≡◌}
use lib.ListN.{length, take, drop}
use borrow.Author.Tests.{le-leb, lt-leb}
use Rattle.cases.specs.Fields.{part_of, part_at}

module _ (l : List ℕ) (a e : ℕ) where
  module _ (h : a ≤ e) (k : e ≤ length l) where
    pub part_there : take (e - a) (drop a l) ≡ part_of l a e
    unfolding part_of
    part_there = rw (le-leb a e h, le-leb e (length l) k)

    pub part_at_inside : part_at l a e ≡ a
    unfolding part_at
    part_at_inside = rw (le-leb a e h, le-leb e (length l) k)

  module _ (h : a ≤ e) (k : length l < e) where
    pub part_past : [] ≡ part_of l a e
    unfolding part_of
    part_past = rw (le-leb a e h, lt-leb e (length l) k)

  module _ (h : e < a) where
    pub part_turned : [] ≡ part_of l a e
    unfolding part_of
    part_turned = rw (lt-leb a e h)
