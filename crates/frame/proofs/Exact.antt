-- Exact reading, from what is found and what the call tells of it.
use Prim.Native.Nat.{ℕ}
use mathlib.Core.List.{List}
use mathlib.Core.Logic.{◌↔◌}
use mathlib.Core.Path.{◌≡◌, refl, sym, ◌∙◌, ap, subst}
use lib.ListN.{length}
use Rattle.std.specs.Prelude.{Result, Ok, Err}
use Rattle.refusal.specs.declared.Refusal.{Refusal}
use Rattle.refusal.specs.Order.{Res, refuse, accept}
use Rattle.refusal.proofs.Order.{accept_inj, refuse≢accept, then_inv, then_refuse, then_accept}
use Rattle.framing.specs.Packet.{Message}
use Rattle.framing.specs.Told.{Shown, shown}
use Rattle.framing.specs.Frames.{Only}
use Rattle.framing.proofs.Exactly.{refuses_none, accepts_only}
use Rattle.suite.specs.declared.PayloadType.{PayloadType}
use Rattle.reader.specs.Answers.{read_told}
use Rattle.reader.specs.declared.Accepted.{Accepted}
use Rattle.reader.proofs.Only.{reading_one}
use Rattle.frame.specs.Exact.{WriteSeen, message_told, Exact, ReadBack}

module _ (R : Res Message) (answer : Result Accepted Refusal) (told : read_told answer ≡ shown R) where
  -- a refusal is answered exactly where one was found
  refused_found : ((r : Refusal) × (answer ≡ Err r)) ↔ ((n : ℕ) × (v : ℕ) × (R ≡ refuse n v))
  unfolding shown
  refused_found = (λ e. found R refl e, λ f. answered answer refl (told ∙ then_refuse R _ _ _ f.2))
    where
      found : (x : Res Message) → R ≡ x → ((r : Refusal) × (answer ≡ Err r)) → (n : ℕ) × (v : ℕ) × (R ≡ refuse n v)
      found (refuse n v) f e = (n, v, f)
      found (accept M) f e = absurd (refuse≢accept _ _ _ (sym (ap read_told e.1) ∙ told ∙ then_accept R _ M f))

      answered : (x : Result Accepted Refusal) → answer ≡ x → {n v : ℕ} → read_told answer ≡ refuse n v → (r : Refusal) × (answer ≡ Err r)
      answered (Err r) f g = (r, f)
      answered (Ok a) f g = absurd (refuse≢accept _ _ _ (sym g ∙ ap read_told f))

  -- an answer that accepts tells the message found
  message_found : (t : PayloadType) (i q n : ℕ) → answer ≡ Ok (record { ty = t; session_id = i; session_sequence_number = q; len = n })
      → (M : Message) × (R ≡ accept M) × (length M.payload ≡ n) × (message_told t i q M.payload ≡ M)
  unfolding shown
  message_found t i q n e =
      let f = then_inv R _ _ (sym told ∙ ap read_told e) in
      let s = accept_inj _ _ f.2 in (
        f.0,
        f.1,
        ap (λ (x : Shown). x.len) s,
        λ k. record {
          ty = ap (λ (x : Shown). x.ty) (sym s) k;
          id = ap (λ (x : Shown). x.id) (sym s) k;
          seq = ap (λ (x : Shown). x.seq) (sym s) k;
          payload = f.0.payload;
        },
      )

  module _ (Hands : ℕ → List ℕ → Type 0) where
    -- reading that accepts with a message exactly when the bytes carry it, and hands its payload out, is exact
    pub exact : (Of : Message → Type 0) → ((M : Message) → (R ≡ accept M) ↔ Of M)
        → ((M : Message) (x : List ℕ) → R ≡ accept M → Hands (length M.payload) x → x ≡ M.payload) → Exact Of answer Hands
    exact Of exactly bytes =
        record {
          refused = (
            λ e. (refuses_none Of R exactly).0 (refused_found.0 e),
            λ none. refused_found.1 ((refuses_none Of R exactly).1 none),
          );
          accepted =
              λ t i q n e.
              let m = message_found t i q n e in (
                m.0.payload,
                m.2,
                subst (Only Of) (sym m.3) (accepts_only Of R exactly m.0 m.1),
                λ x h. bytes m.0 x m.1 (subst (λ (k : ℕ). Hands k x) (sym m.2) h),
              );
        }

    -- and a message that is found is answered by its numbers
    pub read_back : (w : WriteSeen) → R ≡ accept (message_told w.ty w.id w.seq w.payload)
        → ((x : List ℕ) → Hands (length w.payload) x → x ≡ w.payload) → ReadBack w answer Hands
    unfolding shown
    read_back w e bytes = record { answered = reading_one _ _ (told ∙ then_accept R _ _ e); handed = bytes }
