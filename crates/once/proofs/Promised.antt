-- The promises of the calls, from what each stage finds.
use Prim.Native.Nat.{ℕ}
use mathlib.Core.Bool.{true, false, cond, false≢true, true≢false}
use mathlib.Core.List.{List}
use mathlib.Core.Path.{◌≡◌, refl, sym, ◌∙◌, ap}
use Rattle.refusal.specs.Order.{Res, refuse, accept}
use Rattle.std.specs.Result.{is_ok}
use Rattle.refusal.proofs.Order.{then_refuse, then_accept}
use Rattle.framing.specs.Suite.{Suite}
use Rattle.framing.specs.Packet.{Message}
use Rattle.framing.specs.Read.{read_of, openable, opened, left_by, left_of, accepts, blocks_of}
use Rattle.framing.specs.Told.{shown}
use Rattle.framing.proofs.InPlace.{left_opened}
use Rattle.reader.specs.Answers.{read_told, Tells}
use Rattle.reader.specs.declared.Read.{Read}
use Rattle.frame.proofs.Parts.{accepts_told}
use Rattle.arrivals.specs.declared.Arrivals.{Arrivals}
use Rattle.once.specs.Guard.{guard, record_after}
use Rattle.once.specs.Promise.{NumberPromise, OncePromise}
use Rattle.once.specs.declared.ReadOnce.{ReadOnce}
use Rattle.once.proofs.Guarded.{guard_refuse, guard_number, guard_taken, Cases, by_reading, by_number, taken, cases, guard-shown, record_shown}

-- what was told shows whether it was accepted
module _ (a : Arrivals) (R : Res Message) where
  accepted_left : accepts (shown (guard (λ M. M.seq) a R)) ≡ true → (x y : List ℕ)
      → (accepts (shown R) ≡ true) × (left_by (guard (λ M. M.seq) a R) x y ≡ y)
  unfolding shown
  accepted_left h x y = by (cases (λ M. M.seq) a R)
    where
      G : Res Message
      G = guard (λ M. M.seq) a R

      refused : (n v : ℕ) → G ≡ refuse n v → (accepts (shown R) ≡ true) × (left_by G x y ≡ y)
      refused n v e = absurd (false≢true (sym (ap accepts (then_refuse G _ n v e)) ∙ h))

      by : Cases (λ M. M.seq) a R → (accepts (shown R) ≡ true) × (left_by G x y ≡ y)
      by (by_reading n v e) = refused n v (guard_refuse (λ M. M.seq) a R n v e).0
      by (by_number M n v e f) = refused n v (guard_number (λ M. M.seq) a R M n v e f).0
      by (taken M b e f) = (ap accepts (then_accept R _ M e), ap (λ (r : Res Message). left_by r x y) (guard_taken (λ M. M.seq) a R M b e f).0)

  refused_left : accepts (shown (guard (λ M. M.seq) a R)) ≡ false → (x y : List ℕ) → left_by (guard (λ M. M.seq) a R) x y ≡ x
  unfolding shown
  refused_left h x y = by (guard (λ M. M.seq) a R) refl
    where
      G : Res Message
      G = guard (λ M. M.seq) a R

      by : (r : Res Message) → G ≡ r → left_by G x y ≡ x
      by (refuse n v) e = ap (λ (r : Res Message). left_by r x y) e
      by (accept M) e = absurd (true≢false (sym (ap accepts (then_accept G _ M e)) ∙ h))

-- a packet: every check, the number, and the opening of what was taken
module _ (S : Suite) (l : List ℕ) (r : Read) (t : Tells (read_of S l) (blocks_of S l) r) (a : Arrivals) (o : ReadOnce) (p : NumberPromise a r o) where
  told_once : read_told o.read.answer ≡ shown (guard (λ M. M.seq) a (read_of S l))
  told_once = p.answer ∙ ap (guard (λ x. x.seq) a) t.answer ∙ guard-shown a (read_of S l)

  tells_once : Tells (guard (λ M. M.seq) a (read_of S l)) (blocks_of S l) o.read
  tells_once = record { answer = told_once; count = p.count ∙ t.count }

  kept_once : o.arrivals ≡ record_after (λ M. M.seq) a (read_of S l)
  kept_once = p.record_left ∙ ap (record_after (λ x. x.seq) a) t.answer ∙ record_shown a (read_of S l)

  pub once_opened : is_ok o.read.answer ≡ true → (x : List ℕ) → x ≡ cond (openable l) (opened S l) l
      → OncePromise a (read_of S l) (blocks_of S l) (left_of S l) l o x
  once_opened h x e =
      let w = accepted_left a (read_of S l) (sym (ap accepts told_once) ∙ accepts_told o.read.answer ∙ h) l (left_of S l) in
      record {
        read = record { tells = tells_once; buffer = e ∙ left_opened S l (shown (read_of S l)) refl w.0 ∙ sym w.1 };
        record_left = kept_once;
      }

  pub once_refused : is_ok o.read.answer ≡ false → OncePromise a (read_of S l) (blocks_of S l) (left_of S l) l o l
  once_refused h =
      record {
        read = record { tells = tells_once; buffer = sym (refused_left a (read_of S l) (sym (ap accepts told_once) ∙ accepts_told o.read.answer ∙ h) l (left_of S l)) };
        record_left = kept_once;
      }
