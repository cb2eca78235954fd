-- `check_pad` keeps its promise: the bytes beside 1, 2, .. p, pair by pair.
use Rattle.std.proofs.Common.{◌≡◌, ℕ, ◌+◌, ◌-◌, ◌&&◌, List, [], ◌∷◌, length, nat_eq, refl, sym, ap, ◌∙◌, arith, rules, tests}
use Rattle.std.specs.Slice.Iter.{iter_rest}
use Rattle.std.specs.List.{list_all, range_with_len, zip}
use Rattle.std.proofs.lemmas.Iterator.{YieldsList-from_slice, YieldsList-from_zip, YieldsList-from_range}
use Rattle.std.proofs.lemmas.Iterator.Search.{all_from_yields_List}
use Rattle.std.proofs.lemmas.List.FromFn.{length-range_with_len, get_or-range_with_len}
use lib.Seq.{ext_get_or, length-take-le}
use lib.ListN.{take, drop, length-drop}
use Rattle.octets.specs.Place.{part}
use Rattle.octets.specs.Equal.{same}
use Rattle.framing.specs.Packet.{counting}
use Rattle.framing.proofs.Complete.{length-counting}
use Rattle.framing.proofs.Pads.{at-counting}
use Rattle.reader.proofs.body.check_pad.Goals as goal

same_pairs : (xs ys : List ℕ) → length xs ≡ length ys → list_all (λ q. nat_eq q.0 q.1) (zip xs ys) ≡ same xs ys
same_pairs [] [] h = refl
same_pairs [] (y ∷ ys) h = absurd (omega arith)
same_pairs (x ∷ xs) [] h = absurd (omega arith)
same_pairs (x ∷ xs) (y ∷ ys) h = ap (λ b. nat_eq x y && b) (same_pairs xs ys (omega arith))

from_one : (p : ℕ) → range_with_len 1 p ≡ counting p
from_one p =
    ext_get_or 0 _ _ (length-range_with_len 1 p ∙ sym (length-counting p))
    (λ i g. get_or-range_with_len 1 p i 0 (omega (arith, length-range_with_len 1 p)) ∙ omega (arith, at-counting p i (omega (arith, length-range_with_len 1 p))))

pub returns : goal.returns
returns c =
    let a = c.args in
    let xs = part a.x.now a.a a.p in
    let size : length xs ≡ a.p = length-take-le a.p (drop a.a a.x.now) (omega (arith, length-drop a.a a.x.now)) in
    let few : a.a + a.p - a.a ≡ a.p = omega arith in
    let rest = ap iter_rest c.zip.ensures.first ∙ c.iter.ensures.rest ∙ ap (λ n. take n (drop a.a a.x.now)) few in
    let by_call = all_from_yields_List {s = c.zip.result} (λ q. nat_eq q.0 q.1) c.all.new.self _ _ c.all.ensures.ran
    (YieldsList-from_zip (YieldsList-from_slice xs rest) (YieldsList-from_range 1 (a.p + 1) a.p (cc) (omega arith))) (λ x b q k. search (rules, tests)) in
    by_call ∙ same_pairs xs (range_with_len 1 a.p) (size ∙ sym (length-range_with_len 1 a.p)) ∙ ap (same xs) (from_one a.p)
