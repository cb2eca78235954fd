-- Packets and datagrams that arrive one after the other at one record: no number is accepted twice.
use Prim.Native.Nat.{ℕ}
use mathlib.Core.Bool.{true, false}
use mathlib.Core.List.{List, [], ◌∷◌}
use mathlib.Core.Path.{◌≡◌, refl, sym, ◌∙◌, ap}
use Rattle.std.specs.Prelude.{Result, Ok, Err}
use Rattle.refusal.specs.declared.Refusal.{Refusal}
use Rattle.refusal.specs.Order.{Res, refuse, accept}
use Rattle.refusal.specs.Table.{among, unrepeated}
use Rattle.refusal.proofs.Order.{then_refuse, then_accept}
use Rattle.framing.specs.Packet.{Message}
use Rattle.framing.specs.Told.{Shown, shown}
use Rattle.reader.specs.Answers.{read_told}
use Rattle.reader.specs.declared.Accepted.{Accepted}
use Rattle.arrivals.specs.Marks.{count_of}
use Rattle.arrivals.specs.Take.{kept_by}
use Rattle.arrivals.specs.Many.{Barred, after_all, with_taken, taken_of, highest_of, last_of}
use Rattle.arrivals.specs.declared.Arrivals.{Arrivals}
use Rattle.arrivals.proofs.Many.{never, each_once}
use Rattle.arrivals.proofs.Counted.{counted}
use Rattle.arrivals.proofs.Calls.{NewCall, CountCall}
use Rattle.once.specs.Guard.{guard, record_after}
use Rattle.once.specs.Promise.{OncePromise}
use Rattle.once.specs.Exact.{OnceSeen, with_number}
use Rattle.once.proofs.Guarded.{guard_refuse, guard_number, guard_taken, Cases, by_reading, by_number, taken, cases}
use Rattle.once.proofs.Calls.{OnceCall, OnceDatagramCall, seen_once, seen_once_datagram}

-- a call of either
pub data OnceAny : Type 0 where
  packet : OnceCall → OnceAny
  datagram : OnceDatagramCall → OnceAny

abbrev pub seen_any : OnceAny → OnceSeen
seen_any (packet c) = seen_once c
seen_any (datagram c) = seen_once_datagram c

-- calls from the record a on, each given the record that the one before it answered; r is the record in the end
pub data Readings : Arrivals → List OnceAny → Arrivals → Type 0 where
  none : (a : Arrivals) → Readings a [] a
  next : (a r : Arrivals) (c : OnceAny) (cs : List OnceAny) → (seen_any c).arrivals ≡ a → Readings (seen_any c).answer.arrivals cs r → Readings a (c ∷ cs) r

-- the numbers of the packets that were accepted
abbrev pub numbers_read : List OnceAny → List ℕ
numbers_read [] = []
numbers_read (c ∷ cs) = with_number (seen_any c).answer.read.answer (numbers_read cs)

-- the same by what is told of them
abbrev number_told : Res Shown → List ℕ → List ℕ
number_told (refuse n v) ns = ns
number_told (accept x) ns = x.seq ∷ ns

told_number : (x : Result Accepted Refusal) (ns : List ℕ) → with_number x ns ≡ number_told (read_told x) ns
told_number (Ok m) ns = refl
told_number (Err w) ns = refl

-- what one call does, by what reading finds
record Found (a : Arrivals) (o : OnceSeen) : Type 0 where
  R : Res Message
  told : read_told o.answer.read.answer ≡ shown (guard (λ M. M.seq) a R)
  after : o.answer.arrivals ≡ record_after (λ M. M.seq) a R

promise_found : (b : Arrivals) (R : Res Message) (blocks : ℕ) (left lent : List ℕ) (o : OnceSeen)
    → OncePromise b R blocks left lent o.answer o.left → (a : Arrivals) → b ≡ a → Found a o
promise_found b R blocks left lent o p a e =
    record {
      R = R;
      told = p.read.tells.answer ∙ ap (λ (x : Arrivals). shown (guard (λ (M : Message). M.seq) x R)) e;
      after = p.record_left ∙ ap (λ (x : Arrivals). record_after (λ (M : Message). M.seq) x R) e;
    }

found : (c : OnceAny) (a : Arrivals) → (seen_any c).arrivals ≡ a → Found a (seen_any c)
found (packet c) a e = promise_found _ _ _ _ _ (seen_once c) c.kept.0 a e
found (datagram c) a e = promise_found _ _ _ _ _ (seen_once_datagram c) c.kept.0 a e

-- the numbers accepted are those that the record takes of some numbers, and the record is the one after these
record Takes (a : Arrivals) (accepted : List ℕ) (r : Arrivals) : Type 0 where
  numbers : List ℕ
  accepted_is : accepted ≡ taken_of a numbers
  after : r ≡ after_all a numbers

takes-more : (a : Arrivals) (o : OnceSeen) (f : Found a o) (ns : List ℕ) (r : Arrivals) → Takes o.answer.arrivals ns r
    → Takes a (with_number o.answer.read.answer ns) r
unfolding shown taken_of after_all
takes-more a o f ns r t = by (cases (λ M. M.seq) a f.R)
  where
    G : Res Message
    G = guard (λ M. M.seq) a f.R

    unchanged : (n v : ℕ) → G ≡ refuse n v → record_after (λ M. M.seq) a f.R ≡ a → Takes a (with_number o.answer.read.answer ns) r
    unchanged n v g h =
        let e : o.answer.arrivals ≡ a = f.after ∙ h in
        record {
          numbers = t.numbers;
          accepted_is =
              told_number o.answer.read.answer ns ∙ ap (λ (x : Res Shown). number_told x ns) (f.told ∙ then_refuse G _ n v g)
              ∙ t.accepted_is ∙ ap (λ (x : Arrivals). taken_of x t.numbers) e;
          after = t.after ∙ ap (λ (x : Arrivals). after_all x t.numbers) e;
        }

    by : Cases (λ M. M.seq) a f.R → Takes a (with_number o.answer.read.answer ns) r
    by (by_reading n v e) = let g = guard_refuse (λ M. M.seq) a f.R n v e in unchanged n v g.0 g.1
    by (by_number M n v e h) = let g = guard_number (λ M. M.seq) a f.R M n v e h in unchanged n v g.0 g.1
    by (taken M b e h) =
        let g = guard_taken (λ M. M.seq) a f.R M b e h in
        let k : o.answer.arrivals ≡ b = f.after ∙ g.1 in
        record {
          numbers = M.seq ∷ t.numbers;
          accepted_is =
              told_number o.answer.read.answer ns ∙ ap (λ (x : Res Shown). number_told x ns) (f.told ∙ then_accept G _ M g.0)
              ∙ ap (λ (x : List ℕ). M.seq ∷ x) (t.accepted_is ∙ ap (λ (x : Arrivals). taken_of x t.numbers) k)
              ∙ sym (ap (λ (x : Res Arrivals). with_taken x M.seq (taken_of (kept_by x a) t.numbers)) h);
          after =
              t.after ∙ ap (λ (x : Arrivals). after_all x t.numbers) k
              ∙ sym (ap (λ (x : Res Arrivals). after_all (kept_by x a) t.numbers) h);
        }

takes : (a : Arrivals) (cs : List OnceAny) (r : Arrivals) → Readings a cs r → Takes a (numbers_read cs) r
unfolding taken_of after_all
takes a [] r (none b) = record { numbers = []; accepted_is = refl; after = refl }
takes a (c ∷ cs) r (next b s d ds e t) = takes-more a (seen_any c) (found c a e) (numbers_read cs) r (takes (seen_any c).answer.arrivals cs r t)

-- over any packets and datagrams no number is accepted twice, from any record on
pub packets_once : (a : Arrivals) (cs : List OnceAny) (r : Arrivals) → Readings a cs r → unrepeated (numbers_read cs) ≡ true
packets_once a cs r t = let w = takes a cs r t in ap unrepeated w.accepted_is ∙ each_once a w.numbers

-- nor is one accepted that the first record marks, or that is too old for it
pub packets_never : (a : Arrivals) (cs : List OnceAny) (r : Arrivals) → Readings a cs r → (m : ℕ) → Barred a m → among m (numbers_read cs) ≡ false
packets_never a cs r t m b = let w = takes a cs r t in ap (among m) w.accepted_is ∙ never a w.numbers m b

-- and the count, where the record was new, is of the packets accepted among the last 32
pub packets_counted : (m : NewCall) (cs : List OnceAny) (r : Arrivals) → Readings m.answer cs r → (c : CountCall) → c.args.0 ≡ r
    → c.answer ≡ last_of (highest_of (numbers_read cs)) (numbers_read cs)
packets_counted m cs r t c e =
    let w = takes m.answer cs r t in
    c.kept ∙ ap count_of e ∙ counted m.answer m.kept (numbers_read cs) w.numbers r w.accepted_is w.after
