-- Message 2's status, of every call of its reader. A message of four bytes or more whose status is not zero is refused, by 17 or 18 and
-- with that status, whatever else it holds; and the two reserved bytes behind the status have no part in the answer.
use Prim.Native.Nat.{ℕ, ◌≤◌}
use native.Mathlib.Omega.{arith}
use mathlib.Core.List.{List, ◌∷◌}
use mathlib.Core.Path.{◌≡◌, refl, sym, ◌∙◌, ap, subst}
use lib.ListN.{length, get_or}
use Rattle.refusal.specs.Call.{Call}
use Rattle.refusal.specs.Order.{refuse, done}
use Rattle.refusal.specs.Answer.{told}
use Rattle.refusal.proofs.Order.{then_refuse}
use Rattle.messages.specs.Status.{status_number, names2}
use Rattle.messages.specs.Rakp.{checked, fields2, message2}
use Rattle.messages.specs.Promises.{ReadPromise2}
use Rattle.messages.proofs.Tests.{checked_status}
use Rattle.messages.proofs.Answered.{told_done}
use Rattle.messages.proofs.Only.{two_one}
use Rattle.messages.proofs.rakp_2.RakpMessage2.from_data.Kinds as message2-kinds
use Rattle.messages.proofs.rakp_2.RakpMessage2.from_data.Reads as message2-reads

abbrev pub ReadCall2 : Type 0
ReadCall2 = Call 1 message2-kinds.ps message2-kinds.r message2-reads.Post

-- the bytes that a call was lent
abbrev pub lent2 : ReadCall2 → List ℕ
lent2 c = c.args.0.now

pub status_told : (c : ReadCall2) (s : ℕ) → 4 ≤ length (lent2 c) → get_or (lent2 c) 1 0 ≡ s → (s ≡ 0 → ⊥)
    → told c.answer ≡ refuse (status_number names2 s) s
unfolding message2
status_told c s h e g =
    told_done _ _
    ∙ ap done c.kept.answer
    ∙ ap done (then_refuse _ _ _ _ (sym (checked_status names2 40 20 0 (lent2 c) h (λ z. g (sym e ∙ z)))))
    ∙ ap (λ (b : ℕ). refuse (status_number names2 b) b) e

pub unauthorized_name : (c : ReadCall2) → 4 ≤ length (lent2 c) → get_or (lent2 c) 1 0 ≡ 0x0d → told c.answer ≡ refuse 17 0x0d
unfolding status_number
unauthorized_name c h e = status_told c 0x0d h e (λ z. omega arith)

pub inactive_session : (c : ReadCall2) → 4 ≤ length (lent2 c) → get_or (lent2 c) 1 0 ≡ 0x08 → told c.answer ≡ refuse 17 0x08
unfolding status_number
inactive_session c h e = status_told c 0x08 h e (λ z. omega arith)

pub status_03_unnamed : (c : ReadCall2) → 4 ≤ length (lent2 c) → get_or (lent2 c) 1 0 ≡ 0x03 → told c.answer ≡ refuse 18 0x03
unfolding status_number
status_03_unnamed c h e = status_told c 0x03 h e (λ z. omega arith)

unread : (tag status a b x y : ℕ) (rest : List ℕ) → message2 (tag ∷ status ∷ a ∷ b ∷ rest) ≡ message2 (tag ∷ status ∷ x ∷ y ∷ rest)
unfolding message2 checked fields2
unread tag status a b x y rest = refl

pub reserved_unread : (c d : ReadCall2) (tag status a b x y : ℕ) (rest : List ℕ)
    → lent2 c ≡ tag ∷ status ∷ a ∷ b ∷ rest → lent2 d ≡ tag ∷ status ∷ x ∷ y ∷ rest
    → c.answer ≡ d.answer
reserved_unread c d tag status a b x y rest e f =
    let same : message2 (lent2 c) ≡ message2 (lent2 d) = ap message2 e ∙ unread tag status a b x y rest ∙ sym (ap message2 f) in
    two_one _ _ _ c.kept (subst (λ R. ReadPromise2 R d.answer) (sym same) d.kept)
