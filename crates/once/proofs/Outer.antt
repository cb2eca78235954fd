-- The outer call's promise, from what the test of the four bytes finds and what the packet behind them is answered with.
use Prim.Native.Nat.{ℕ, ◌-◌, ◌≤◌}
use native.Mathlib.Omega.{arith}
use mathlib.Core.List.{List, [], ◌++◌, append-nil}
use mathlib.Core.Path.{◌≡◌, refl, sym, ◌∙◌, ap}
use lib.ListN.{length, take, drop, length-drop, take-append-drop, drop_of_length-le}
use Rattle.std.specs.Prelude.{Err}
use Rattle.refusal.specs.Order.{Res, refuse, accept}
use Rattle.refusal.specs.Table.{number_of, value_of}
use Rattle.refusal.specs.declared.Refusal.{Refusal}
use Rattle.refusal.proofs.Order.{then_refuse, then_accept}
use Rattle.octets.proofs.Place.{to_end}
use Rattle.framing.specs.Suite.{Suite}
use Rattle.framing.specs.Packet.{Message}
use Rattle.framing.specs.Read.{read_of, left_by, left_of, blocks_of}
use Rattle.framing.specs.Told.{shown}
use Rattle.framing.specs.Outer.{outer_of, read_datagram_of, left_datagram, blocks_datagram}
use Rattle.framing.proofs.InPlace.{outer_no, outer_on}
use Rattle.arrivals.specs.declared.Arrivals.{Arrivals}
use Rattle.once.specs.Guard.{guard, record_after}
use Rattle.once.specs.Promise.{OncePromise}
use Rattle.once.specs.declared.ReadOnce.{ReadOnce}
use Rattle.once.proofs.Guarded.{guard_refuse}

module _ (S : Suite) (d : List ℕ) (x : Res (Unit {0})) (e : x ≡ outer_of d) (a : Arrivals) where
  pub outer_refused : (w : Refusal) → x ≡ refuse (number_of w) (value_of w)
      → OncePromise a (read_datagram_of S d) (blocks_datagram S d) (left_datagram S d) d
      (record { read = record { answer = Err w; blocks = 0 }; arrivals = a }) d
  unfolding read_datagram_of shown
  outer_refused w f =
      let g = guard_refuse (λ M. M.seq) a (read_datagram_of S d) _ _ (then_refuse (outer_of d) _ _ _ (sym e ∙ f)) in
      record {
        read =
            record {
              tells = record { answer = sym (then_refuse _ _ _ _ g.0); count = (outer_no S d x e _ _ f).1 };
              buffer = sym (ap (λ (r : Res Message). left_by r d (left_datagram S d)) g.0);
            };
        record_left = sym g.1;
      }

  pub outer_passed : (u : Unit {0}) → x ≡ accept u → (l : List ℕ) → l ≡ take (length d - 4) (drop 4 d) → (o : ReadOnce) (y : List ℕ)
      → OncePromise a (read_of S l) (blocks_of S l) (left_of S l) l o y
      → OncePromise a (read_datagram_of S d) (blocks_datagram S d) (left_datagram S d) d o (take 4 d ++ (y ++ drop (length d - 4) (drop 4 d)))
  unfolding read_datagram_of
  outer_passed u g l f o y p =
      let inner : read_datagram_of S d ≡ read_of S (drop 4 d) = then_accept (outer_of d) _ u (sym e ∙ g) in
      let over : length (drop 4 d) ≤ length d - 4 = omega (arith, length-drop 4 d) in
      let rest : drop (length d - 4) (drop 4 d) ≡ [] = drop_of_length-le (drop 4 d) over in
      let packet : l ≡ drop 4 d = f ∙ to_end (length d) 4 d (omega arith) in
      let same : read_of S l ≡ read_datagram_of S d = ap (read_of S) packet ∙ sym inner in
      let w = outer_on S d x e u _ _ l (left_of S l) g f refl refl refl in
      record {
        read =
            record {
              tells =
                  record {
                    answer = p.read.tells.answer ∙ ap (λ (r : Res Message). shown (guard (λ M. M.seq) a r)) same;
                    count = p.read.tells.count ∙ w.1;
                  };
              buffer =
                  ap (λ (z : List ℕ). take 4 d ++ (z ++ drop (length d - 4) (drop 4 d))) p.read.buffer
                  ∙ outer_left (guard (λ M. M.seq) a (read_of S l)) packet rest w.2
                  ∙ ap (λ (r : Res Message). left_by (guard (λ M. M.seq) a r) d (left_datagram S d)) same;
            };
        record_left = p.record_left ∙ ap (record_after (λ M. M.seq) a) same;
      }
    where
      outer_left : (r : Res Message) → l ≡ drop 4 d → drop (length d - 4) (drop 4 d) ≡ []
          → take 4 d ++ (left_of S l ++ drop (length d - 4) (drop 4 d)) ≡ left_datagram S d
          → take 4 d ++ (left_by r l (left_of S l) ++ drop (length d - 4) (drop 4 d)) ≡ left_by r d (left_datagram S d)
      outer_left (refuse n v) h z k =
          ap (λ (t : List ℕ). take 4 d ++ (l ++ t)) z ∙ ap (λ (t : List ℕ). take 4 d ++ t) (append-nil l ∙ h) ∙ take-append-drop 4 d
      outer_left (accept M) h z k = k
