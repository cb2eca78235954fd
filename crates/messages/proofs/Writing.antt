-- Laws of writing a message from the output's start, and of a writer's answer.
use Prim.Native.Nat.{ℕ, ◌+◌, ◌<◌, ◌≤◌}
use native.Mathlib.Omega.{arith}
use mathlib.Core.Bool.{Bool, true, false}
use mathlib.Core.List.{List, [], ◌∷◌, ◌++◌}
use mathlib.Core.Path.{◌≡◌, refl, sym, ◌∙◌, ap}
use lib.ListN.{length, length-append}
use borrow.Author.Tests.{le-leb, lt-leb, leb-true, leb-false}
use Rattle.refusal.specs.Order.{accept}
use Rattle.refusal.specs.declared.Refusal.TheVariants.{OutputTooShort}
use Rattle.refusal.proofs.Order.{pass, need_no}
use Rattle.octets.specs.Place.{begun}
use Rattle.octets.specs.Promise.{PutPromise}
use Rattle.octets.proofs.Place.{placed-fits, placed-not, begun_first}
use Rattle.octets.specs.Number.{le}
use Rattle.messages.specs.Name.{name_of}
use Rattle.messages.specs.Rakp.{message1}
use Rattle.messages.specs.Answers.{told_written}
use Rattle.messages.specs.Promises.{WritePromise}
use Rattle.messages.specs.declared.rakp_1.RakpMessage1.{RakpMessage1}
use Rattle.std.specs.Prelude.{Result, Ok, Err}
use Rattle.refusal.specs.declared.Refusal.{Refusal}

module _ (bytes out : List ℕ) where
  pub write_no : length out < length bytes → WritePromise bytes out (Err OutputTooShort) out
  write_no h = record { answer = sym (need_no _ _ _ _ (lt-leb _ _ h)); buffer = sym (placed-not out 0 bytes (omega arith)) }

  pub write_yes : (n : ℕ) (x : List ℕ) → length bytes ≤ length out → n ≡ length bytes → x ≡ begun bytes out
      → WritePromise bytes out (Ok n) x
  write_yes n x h e f =
      record {
        answer = ap accept e ∙ sym (pass _ _ _ _ (le-leb _ _ h) refl);
        buffer = f ∙ sym (begun_first bytes out) ∙ sym (placed-fits out 0 bytes (omega arith));
      }

  -- where one put writes the whole message, its answer is the writer's
  pub one_no : (r : Bool) (x : List ℕ) → PutPromise out 0 bytes r x → r ≡ false → WritePromise bytes out (Err OutputTooShort) x
  one_no r x p e =
      let h : length out < length bytes = omega (arith, leb-false (0 + length bytes) (length out) (sym p.answer ∙ e)) in
      record { answer = sym (need_no _ _ _ _ (lt-leb _ _ h)); buffer = p.buffer }

  pub one_yes : (n : ℕ) (r : Bool) (x : List ℕ) → n ≡ length bytes → PutPromise out 0 bytes r x → r ≡ true
      → WritePromise bytes out (Ok n) x
  one_yes n r x f p e =
      let h : length bytes ≤ length out = omega (arith, leb-true (0 + length bytes) (length out) (sym p.answer ∙ e)) in
      record { answer = ap accept f ∙ sym (pass _ _ _ _ (le-leb _ _ h) refl); buffer = p.buffer }

-- message 1
module _ (s : RakpMessage1) (k : length s.random ≡ 16) (n : ℕ) (e : n ≡ length (name_of s.username)) (out : List ℕ) where
  pub size1 : length (message1 s) ≡ 28 + n
  unfolding message1
  size1 = simp length-append (omega arith)

  pub write1_no : length out < 28 + n → WritePromise (message1 s) out (Err OutputTooShort) out
  write1_no h = let g = size1 in write_no (message1 s) out (omega arith)

  pub write1_yes : (head name x : List ℕ) → 28 + n ≤ length out → head ≡ s.tag ∷ 0 ∷ 0 ∷ 0 ∷ le 4 s.system
      → name ≡ name_of s.username → x ≡ begun (head ++ s.random ++ (s.role ∷ 0 ∷ 0 ∷ n ∷ []) ++ name) out
      → WritePromise (message1 s) out (Ok (28 + n)) x
  unfolding message1
  write1_yes head name x h a b f =
      let g = size1 in
      write_yes (message1 s) out (28 + n) x (omega arith) (sym g) (f ∙ rw (a, b, e))

  -- the random number may be told in other words
  pub write1_told : (head random name x : List ℕ) → 28 + n ≤ length out → head ≡ s.tag ∷ 0 ∷ 0 ∷ 0 ∷ le 4 s.system
      → random ≡ s.random → name ≡ name_of s.username → x ≡ begun (head ++ random ++ (s.role ∷ 0 ∷ 0 ∷ n ∷ []) ++ name) out
      → WritePromise (message1 s) out (Ok (28 + n)) x
  write1_told head random name x h a r b f = write1_yes head name x h a b (rw r at f)

-- what a caller with room enough learns of a writer
pub wrote : (bytes out : List ℕ) (r : Result ℕ Refusal) (x : List ℕ) → WritePromise bytes out r x → length bytes ≤ length out
    → (told_written r ≡ accept (length bytes)) × (x ≡ begun bytes out)
wrote bytes out r x p h =
    (p.answer ∙ pass _ _ _ _ (le-leb _ _ h) refl, p.buffer ∙ placed-fits out 0 bytes (omega arith) ∙ begun_first bytes out)
