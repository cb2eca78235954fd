-- No second answer: two answers that keep the call's promise on the same arguments are equal, and so is what they leave in the
-- lent buffer.
use mathlib.Core.Path.{◌≡◌}
use native.Mathlib.Omega.{arith}
use Rattle.std.proofs.Common.{ℕ, zero, suc, ◌+◌, ◌-◌, ◌<◌, ◌≤◌, List, Option, Some, None, [], ◌++◌, length, take, refl, sym, ap, ◌∙◌, subst, rules}
use Rattle.std.proofs.Math.Seq.{take-append-add}
use Rattle.text.specs.declared.write.Cursor.{Cursor}
use Rattle.report.specs.Told.{longest, told}
use Rattle.report.specs.Fed.{Fed}
use Rattle.text.specs.Promise.{AddPromise}
use Rattle.text.proofs.Only.{add_promise_only}
use Rattle.report.proofs.tell.Reads as tell-reads

pub tell_only : (κs : _) (args : _) (a b : _) (s t : _)
    → tell-reads.Post κs args a s → tell-reads.Post κs args b t → (a ≡ b) × (s.1.0.now ≡ t.1.0.now)
tell_only κs args a b s t p q = add_promise_only _ _ _ a b _ _ p q

-- where no byte is left, none is taken
none_taken : (k : ℕ) (l : List ℕ) → (0 < k → l ≡ []) → take k l ≡ []
none_taken zero l f = refl
none_taken (suc k) l f = ap (take (suc k)) (f (omega arith))

-- a part that lies at the front, and is no longer than n, is the first n where it is all that there is or has n
first_of : (n : ℕ) (xs p rest : List ℕ) → xs ≡ p ++ rest → length p ≤ n → (length p < n → rest ≡ []) → take n xs ≡ p
first_of n xs p rest e within whole =
    let k = n - length p in
    let sum : length p + k ≡ n = omega arith in
    ap (take n) e ∙ ap (λ m. take m (p ++ rest)) (sym sum) ∙ take-append-add p rest k
    ∙ ap (λ l. p ++ l) (none_taken k rest (λ some. whole (omega arith))) ∙ search rules

-- the same of an input whose bytes are known, whatever two calls leave of it: the packet is its first bytes, at most one more than the longest
-- packet has
pub fed_only : (xs : List ℕ) (r s : Option (List ℕ)) (d : List ℕ) (c a b : Cursor) (x y : List ℕ)
    → Fed (Some xs) r d c a x → Fed (Some xs) s d c b y → (a ≡ b) × (x ≡ y)
fed_only xs None s d c a b x y p q = absurd p.gave
fed_only xs (Some r) None d c a b x y p q = absurd q.gave
fed_only xs (Some r) (Some s) d c a b x y p q =
    let e = sym (first_of (longest + 1) xs p.packet r p.gave p.within p.whole) ∙ first_of (longest + 1) xs q.packet s q.gave q.within q.whole in
    add_promise_only d c (told q.packet) a b x y (subst (λ l. AddPromise d c (told l) a x) e p.line) q.line
