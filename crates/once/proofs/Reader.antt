-- The guarded reader beside the reader, and exact reading once, from what is found and what the promises say of it.
use Prim.Native.Nat.{ℕ, ◌<◌}
use native.Mathlib.Omega.{arith}
use mathlib.Core.List.{List}
use mathlib.Core.Logic.{inl, inr, ⊎_elim, ◌↔◌}
use mathlib.Core.Path.{◌≡◌, refl, sym, ◌∙◌, ap, ap₂, subst}
use lib.ListN.{length}
use Rattle.std.specs.Prelude.{Result, Ok, Err}
use Rattle.refusal.specs.Order.{Res, refuse, accept}
use Rattle.refusal.specs.Table.{number_of, value_of}
use Rattle.refusal.specs.declared.Refusal.{Refusal}
use Rattle.refusal.proofs.Order.{accept_inj, refuse≢accept, refuse_as, then_inv, then_refuse, then_accept}
use Rattle.framing.specs.Packet.{Message}
use Rattle.framing.specs.Read.{left_by}
use Rattle.framing.specs.Told.{Shown, shown}
use Rattle.framing.specs.Frames.{Only}
use Rattle.framing.proofs.Exactly.{refuses_none, accepts_only}
use Rattle.reader.specs.Answers.{read_told, Tells}
use Rattle.reader.specs.declared.Accepted.{Accepted}
use Rattle.reader.specs.declared.Read.{Read}
use Rattle.reader.proofs.Only.{reading_one, tells_one}
use Rattle.frame.specs.Answers.{ReadPromise}
use Rattle.frame.specs.Exact.{message_told}
use Rattle.frame.proofs.Exact.{exact}
use Rattle.arrivals.specs.Take.{take_of}
use Rattle.arrivals.specs.declared.Arrivals.{Arrivals}
use Rattle.arrivals.proofs.Steps.{take_numbers}
use Rattle.once.specs.Guard.{guard, record_after}
use Rattle.once.specs.Promise.{OncePromise}
use Rattle.once.specs.Exact.{OnceSeen, Guards, AsFound, ByNumber, OnceExact}
use Rattle.once.specs.declared.ReadOnce.{ReadOnce}
use Rattle.once.proofs.Guarded.{guard_refuse, guard_number, guard_taken, Cases, by_reading, by_number, taken, cases}

-- what stands behind an answer that refuses, and behind one that accepts
module _ (R : Res Message) (answer : Result Accepted Refusal) (told : read_told answer ≡ shown R) where
  refused_found : (w : Refusal) → answer ≡ Err w → R ≡ refuse (number_of w) (value_of w)
  unfolding shown
  refused_found w e = by R refl
    where
      by : (r : Res Message) → R ≡ r → R ≡ refuse (number_of w) (value_of w)
      by (refuse n v) f = f ∙ refuse_as n v _ _ (sym (then_refuse R _ n v f) ∙ sym told ∙ ap read_told e)
      by (accept M) f = absurd (refuse≢accept _ _ _ (sym (ap read_told e) ∙ told ∙ then_accept R _ M f))

  found_refused : (n v : ℕ) → R ≡ refuse n v → (w : Refusal) × (answer ≡ Err w) × (number_of w ≡ n)
  unfolding shown
  found_refused n v e = by answer refl
    where
      by : (x : Result Accepted Refusal) → answer ≡ x → (w : Refusal) × (answer ≡ Err w) × (number_of w ≡ n)
      by (Err w) f = (w, f, (let g = sym (ap read_told f) ∙ told ∙ then_refuse R _ n v e in cc))
      by (Ok m) f = absurd (refuse≢accept _ _ _ (sym (then_refuse R _ n v e) ∙ sym told ∙ ap read_told f))

  accepted_found : (m : Accepted) → answer ≡ Ok m → (M : Message) × (R ≡ accept M) × (M.seq ≡ m.session_sequence_number)
  unfolding shown
  accepted_found m e =
      let f = then_inv R _ _ (sym told ∙ ap read_told e) in
      (f.0, f.1, ap (λ (x : Shown). x.seq) (accept_inj _ _ f.2))

module _ (a : Arrivals) (R : Res Message) (blocks : ℕ) (left lent : List ℕ) where
  abbrev G : Res Message
  G = guard (λ M. M.seq) a R

  -- a refusal leaves packet and record
  module _ (s : OnceSeen) (q : OncePromise a R blocks left lent s.answer s.left) (given : s.arrivals ≡ a) (bytes : s.lent ≡ lent) where
    pub as_found : AsFound s
    as_found w e =
        (q.read.buffer ∙ ap (λ (z : Res Message). left_by z lent left) f ∙ sym bytes, q.record_left ∙ by (cases (λ M. M.seq) a R) ∙ sym given)
      where
        f : G ≡ refuse (number_of w) (value_of w)
        f = refused_found G s.answer.read.answer q.read.tells.answer w e

        by : Cases (λ M. M.seq) a R → record_after (λ M. M.seq) a R ≡ a
        by (by_reading n v g) = (guard_refuse (λ M. M.seq) a R n v g).1
        by (by_number M n v g h) = (guard_number (λ M. M.seq) a R M n v g h).1
        by (taken M b g h) = absurd (refuse≢accept _ _ _ (sym f ∙ (guard_taken (λ M. M.seq) a R M b g h).0))

  -- reading and reading once, on the same bytes; of what reading refuses it leaves what was lent
  module _ (unread : (n v : ℕ) → R ≡ refuse n v → left ≡ lent) (r : Read) (x : List ℕ) (p : ReadPromise R blocks left r x) (s : OnceSeen)
      (q : OncePromise a R blocks left lent s.answer s.left) (given : s.arrivals ≡ a) (bytes : s.lent ≡ lent) where
    -- where both find the same they answer the same
    alike : G ≡ R → s.answer.read ≡ r
    alike e = tells_one R blocks _ _ (subst (λ (y : Res Message). Tells y blocks s.answer.read) e q.read.tells) p.tells

    left_as : (y : Res Message) → G ≡ y → s.left ≡ left_by y lent left
    left_as y e = q.read.buffer ∙ ap (λ (z : Res Message). left_by z lent left) e

    refused_by : (w : Refusal) → G ≡ refuse (number_of w) (value_of w) → s.answer.read ≡ record { answer = Err w; blocks = r.blocks }
    unfolding shown
    refused_by w e =
        let f : s.answer.read.answer ≡ Err w = reading_one _ _ (q.read.tells.answer ∙ then_refuse G _ _ _ e) in
        λ k. record { answer = f k; blocks = (q.read.tells.count ∙ sym p.tells.count) k }

    -- where the guarded reader accepts, so does the reader
    as_read : (k : Accepted) → s.answer.read.answer ≡ Ok k
        → (s.answer.read ≡ r) × (s.left ≡ x) × (take_of s.arrivals k.session_sequence_number ≡ accept s.answer.arrivals)
    as_read k e = by (cases (λ M. M.seq) a R)
      where
        m : (M : Message) × (G ≡ accept M) × (M.seq ≡ k.session_sequence_number)
        m = accepted_found G s.answer.read.answer q.read.tells.answer k e

        by : Cases (λ M. M.seq) a R
            → (s.answer.read ≡ r) × (s.left ≡ x) × (take_of s.arrivals k.session_sequence_number ≡ accept s.answer.arrivals)
        by (by_reading n v g) = absurd (refuse≢accept _ _ _ (sym (guard_refuse (λ M. M.seq) a R n v g).0 ∙ m.1))
        by (by_number M n v g h) = absurd (refuse≢accept _ _ _ (sym (guard_number (λ M. M.seq) a R M n v g h).0 ∙ m.1))
        by (taken M b g h) =
            let f = guard_taken (λ M. M.seq) a R M b g h in
            let one : M ≡ m.0 = accept_inj _ _ (sym f.0 ∙ m.1) in (
              alike (f.0 ∙ sym g),
              left_as _ f.0 ∙ sym p.buffer,
              ap₂ take_of given (sym m.2 ∙ ap (λ (z : Message). z.seq) (sym one)) ∙ h ∙ ap accept (sym (q.record_left ∙ f.1)),
            )

    pub guards : Guards s r x
    guards =
        record {
          refused =
              λ w e.
              let f = refused_found R r.answer p.tells.answer w e in
              let g = guard_refuse (λ M. M.seq) a R _ _ f in (
                alike (g.0 ∙ sym f),
                left_as _ g.0 ∙ sym (unread _ _ f) ∙ sym p.buffer,
                q.record_left ∙ g.1 ∙ sym given,
              );
          taken =
              λ k b e h.
              let m = accepted_found R r.answer p.tells.answer k e in
              let g = guard_taken (λ M. M.seq) a R m.0 b m.1 (ap₂ take_of (sym given) m.2 ∙ h) in
              (alike (g.0 ∙ sym m.1), left_as _ g.0 ∙ sym p.buffer, q.record_left ∙ g.1);
          not_taken =
              λ k w e h.
              let m = accepted_found R r.answer p.tells.answer k e in
              let g = guard_number (λ M. M.seq) a R m.0 _ _ m.1 (ap₂ take_of (sym given) m.2 ∙ h) in (
                refused_by w g.0,
                left_as _ g.0 ∙ sym bytes,
                q.record_left ∙ g.1 ∙ sym given,
              );
          accepted = as_read;
        }

  -- reading once is exact, where reading accepts with a message exactly when the bytes carry it, and has no refusal by 38 or 39
  module _ (Of : Message → Type 0) (exactly : (M : Message) → (R ≡ accept M) ↔ Of M) (below : (n v : ℕ) → R ≡ refuse n v → n < 38)
      (o : ReadOnce) (x : List ℕ) (q : OncePromise a R blocks left lent o x) where
    abbrev answer : Result Accepted Refusal
    answer = o.read.answer

    not_below : (w : Refusal) → number_of w < 38 → ByNumber w → ⊥
    not_below w l (inl e) = omega arith
    not_below w l (inr e) = omega arith

    -- a refusal that is not the number's is reading's
    by_reading_found : (w : Refusal) → answer ≡ Err w → (ByNumber w → ⊥) → R ≡ refuse (number_of w) (value_of w)
    by_reading_found w e n = by (cases (λ M. M.seq) a R)
      where
        f : G ≡ refuse (number_of w) (value_of w)
        f = refused_found G answer q.read.tells.answer w e

        by : Cases (λ M. M.seq) a R → R ≡ refuse (number_of w) (value_of w)
        by (by_reading m v g) = g ∙ (sym (guard_refuse (λ M. M.seq) a R m v g).0 ∙ f)
        by (by_number M m v g h) =
            let z : m ≡ number_of w = let y = sym (guard_number (λ M. M.seq) a R M m v g h).0 ∙ f in cc in
            absurd (n (⊎_elim (λ k. inr (sym z ∙ k)) (λ k. inl (sym z ∙ k)) (take_numbers a M.seq m v h)))
        by (taken M b g h) = absurd (refuse≢accept _ _ _ (sym f ∙ (guard_taken (λ M. M.seq) a R M b g h).0))

    -- and the number's is not reading's
    by_number_found : (w : Refusal) → answer ≡ Err w → ByNumber w
        → (M : Message) × Only Of M × (take_of a M.seq ≡ refuse (number_of w) (value_of w))
    by_number_found w e n = by (cases (λ M. M.seq) a R)
      where
        f : G ≡ refuse (number_of w) (value_of w)
        f = refused_found G answer q.read.tells.answer w e

        by : Cases (λ M. M.seq) a R → (M : Message) × Only Of M × (take_of a M.seq ≡ refuse (number_of w) (value_of w))
        by (by_reading m v g) = absurd (not_below w (below _ _ (g ∙ (sym (guard_refuse (λ M. M.seq) a R m v g).0 ∙ f))) n)
        by (by_number M m v g h) = (M, accepts_only Of R exactly M g, h ∙ refuse_as m v _ _ (sym (guard_number (λ M. M.seq) a R M m v g h).0 ∙ f))
        by (taken M b g h) = absurd (refuse≢accept _ _ _ (sym f ∙ (guard_taken (λ M. M.seq) a R M b g h).0))

    number_answered : (w : Refusal) (M : Message) → R ≡ accept M → take_of a M.seq ≡ refuse (number_of w) (value_of w) → answer ≡ Err w
    unfolding shown
    number_answered w M e h = reading_one _ _ (q.read.tells.answer ∙ then_refuse G _ _ _ (guard_number (λ M. M.seq) a R M _ _ e h).0)

    module _ (Hands : ℕ → List ℕ → Type 0)
        (bytes : (M : Message) (y : List ℕ) → R ≡ accept M → x ≡ left → Hands (length M.payload) y → y ≡ M.payload) where
      abbrev Told : Accepted → Type 0
      Told k =
          (payload : List ℕ) × (length payload ≡ k.len) × Only Of (message_told k.ty k.session_id k.session_sequence_number payload)
          × ((y : List ℕ) → Hands k.len y → y ≡ payload) × ((b : Arrivals) × (take_of a k.session_sequence_number ≡ accept b))

      accepted_exact : (k : Accepted) → answer ≡ Ok k → Told k
      accepted_exact k e = by (cases (λ M. M.seq) a R)
        where
          told : read_told answer ≡ shown G
          told = q.read.tells.answer

          m : (M : Message) × (G ≡ accept M) × (M.seq ≡ k.session_sequence_number)
          m = accepted_found G answer told k e

          by : Cases (λ M. M.seq) a R → Told k
          by (by_reading n v g) = absurd (refuse≢accept _ _ _ (sym (guard_refuse (λ M. M.seq) a R n v g).0 ∙ m.1))
          by (by_number M n v g h) = absurd (refuse≢accept _ _ _ (sym (guard_number (λ M. M.seq) a R M n v g h).0 ∙ m.1))
          by (taken M b g h) =
              let f = (guard_taken (λ M. M.seq) a R M b g h).0 in
              let opened : x ≡ left = q.read.buffer ∙ ap (λ (z : Res Message). left_by z lent left) f in
              let one : M ≡ m.0 = accept_inj _ _ (sym f ∙ m.1) in
              let w = (exact R answer (told ∙ ap shown (f ∙ sym g)) Hands Of exactly (λ N y n z. bytes N y n opened z)).accepted k.ty k.session_id k.session_sequence_number k.len e in
              (w.0, w.1, w.2, w.3, (b, ap (take_of a) (sym m.2 ∙ ap (λ (z : Message). z.seq) (sym one)) ∙ h))

      pub once_exact : OnceExact Of a answer Hands
      once_exact =
          record {
            refused = (
              λ e. (refuses_none Of R exactly).0 (_, _, by_reading_found e.0 e.1 e.2),
              λ none.
                  let f = (refuses_none Of R exactly).1 none in
                  let w = found_refused G answer q.read.tells.answer f.0 f.1 (guard_refuse (λ M. M.seq) a R _ _ f.2).0 in
                  (w.0, w.1, not_below w.0 (subst (λ (k : ℕ). k < 38) (sym w.2) (below _ _ f.2))),
            );
            by_number = λ w n. (λ e. by_number_found w e n, λ f. number_answered w f.0 ((exactly f.0).1 f.1.0) f.2);
            accepted = accepted_exact;
          }
