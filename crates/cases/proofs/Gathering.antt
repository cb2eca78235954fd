-- Laws of gathering a line from pieces: the line ends in what is left of the piece, or does not.
use Prim.Native.Nat.{ℕ, suc, ◌+◌, ◌-◌, ◌≤◌, ◌<◌}
use native.Mathlib.Omega.{arith}
use mathlib.Core.Bool.{true, false}
use mathlib.Core.List.{List}
use mathlib.Core.Path.{◌≡◌, refl, sym, ◌∙◌, ap}
use lib.Dec.{leb}
use lib.ListN.{length, take, drop, length-drop}
use lib.Seq.{length-take-le}
use borrow.Author.Tests.{leb-true, leb-false, lt-ltb, le-ltb}
use Rattle.text.specs.Fields.{upto}
use Rattle.text.specs.Promise.{AddPromise}
use Rattle.text.specs.declared.write.Cursor.{Cursor}
use Rattle.text.proofs.Cuts.{upto_take}
use Rattle.text.proofs.Writing.{add_of}
use Rattle.octets.specs.Place.{part}
use Rattle.cases.specs.Fields.{part_of}
use Rattle.cases.specs.Input.{left, found, ends, GatherPromise}
use Rattle.cases.specs.declared.input.Input.{Input}
use Rattle.octets.proofs.Order.{by_cases, cond_true, cond_false}
use Rattle.cases.proofs.Parts.{part_there, part_past, part_turned}
use Rattle.cases.proofs.Walk.{upto_short}

-- what is left of the piece lies in it, if it is something
module _ (piece : List ℕ) (a e : ℕ) where
  left_fits : 0 < length (part_of piece a e) → a + length (part_of piece a e) ≡ e
  unfolding part_of
  left_fits h =
      by_cases (leb a e)
      (λ (f : leb a e ≡ true).
      by_cases (leb e (length piece))
      (λ (g : leb e (length piece) ≡ true).
      let t : length (part piece a (e - a)) ≡ e - a =
      length-take-le (e - a) (drop a piece) (omega (arith, leb-true a e f, leb-true e (length piece) g, length-drop a piece)) in
      let u : length (part_of piece a e) ≡ e - a = ap length (sym (part_there piece a e (leb-true a e f) (leb-true e (length piece) g))) ∙ t in
      omega (arith, leb-true a e f))
      (λ (g : leb e (length piece) ≡ false).
      absurd (omega (arith, ap length (sym (part_past piece a e (leb-true a e f) (leb-false e (length piece) g)))))))
      (λ (f : leb a e ≡ false). absurd (omega (arith, ap length (sym (part_turned piece a e (leb-false a e f))))))

-- behind the newline there is still the piece's end
pub gather_room : (piece p : List ℕ) (a e n : ℕ) → p ≡ part_of piece a e → n < length p → a + n + 1 ≤ e
gather_room piece p a e n f h =
    let k : length p ≡ length (part_of piece a e) = ap length f in
    omega (arith, left_fits piece a e (omega arith))

-- what is known where a turn ends: p is what is left of the piece, q what it has of the line, n characters
module _ (s : Input) (piece line p q : List ℕ) (n : ℕ) (f : p ≡ left s piece) (g : n ≡ 0 + length (upto 0x0a p)) (k : q ≡ part_of p 0 n) where
  found_is : q ≡ found s piece
  found_is =
      let z : n - 0 ≡ length (upto 0x0a p) = omega arith in
      let h : 0 ≤ n = omega arith in
      let m : n ≤ length p = omega (arith, upto_short 0x0a p) in
      k
      ∙ sym (part_there p 0 n h m)
      ∙ ap (λ (j : ℕ). take j p) z
      ∙ sym (upto_take 0x0a p)
      ∙ ap (upto 0x0a) f

  count_is : (length (found s piece) ≡ n) × (length (left s piece) ≡ length p)
  count_is =
      let z : length (upto 0x0a p) ≡ n = omega arith in
      (ap (λ (l : List ℕ). length (upto 0x0a l)) (sym f) ∙ z, ap length (sym f))

  module _ (c : Cursor) (x : List ℕ) (m : AddPromise line s.line q c x) where
    added : AddPromise line s.line (found s piece) c x
    added = add_of line s.line q (found s piece) c x found_is m

    pub gather_end : n < length p → GatherPromise s piece line (record { from = s.from + n + 1; to = s.to; line = c; whole = true }) x
    gather_end h =
        let t : ends s piece ≡ true = lt-ltb (length (found s piece)) (length (left s piece)) (omega (arith, count_is.0, count_is.1)) in
        let z : s.from + n + 1 ≡ s.from + suc (length (found s piece)) = omega (arith, count_is.0) in
        let o = cond_true (ends s piece) (s.from + suc (length (found s piece))) s.to t in
        record { added = added; from = z ∙ sym o; to = refl; whole = sym t }

    pub gather_on : length p ≤ n → GatherPromise s piece line (record { from = s.to; to = s.to; line = c; whole = false }) x
    gather_on h =
        let t : ends s piece ≡ false = le-ltb (length (found s piece)) (length (left s piece)) (omega (arith, count_is.0, count_is.1)) in
        let o = cond_false (ends s piece) (s.from + suc (length (found s piece))) s.to t in
        record { added = added; from = sym o; to = refl; whole = sym t }
