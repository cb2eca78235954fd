-- Arrivals as the calls take them: calls of `take`, each on the record that the one before it answered, or on its own again where that one
-- refused the number. Of a call nothing is used but its contract.
use Prim.Native.Nat.{ℕ}
use mathlib.Core.Bool.{true, false}
use mathlib.Core.List.{List, [], ◌∷◌, map}
use mathlib.Core.Path.{◌≡◌, refl, ◌∙◌, ap, ap₂}
use Rattle.refusal.specs.Call.{Call}
use Rattle.refusal.specs.Answer.{told_as}
use Rattle.refusal.specs.Order.{Res}
use Rattle.refusal.specs.Table.{among, unrepeated}
use Rattle.arrivals.specs.Marks.{count_of}
use Rattle.arrivals.specs.Take.{take_of, kept_by}
use Rattle.arrivals.specs.Many.{Barred, after_all, with_taken, taken_of, highest_of, last_of}
use Rattle.arrivals.specs.declared.Arrivals.{Arrivals}
use Rattle.arrivals.proofs.Many.{never, each_once}
use Rattle.arrivals.proofs.Counted.{counted}
use Rattle.arrivals.proofs.Arrivals.new.Kinds as new-kinds
use Rattle.arrivals.proofs.Arrivals.new.Reads as new-reads
use Rattle.arrivals.proofs.Arrivals.take.Kinds as take-kinds
use Rattle.arrivals.proofs.Arrivals.take.Reads as take-reads
use Rattle.arrivals.proofs.Arrivals.count.Kinds as count-kinds
use Rattle.arrivals.proofs.Arrivals.count.Reads as count-reads

-- the calls
abbrev pub NewCall : Type 0
NewCall = Call 0 new-kinds.ps new-kinds.r new-reads.Post

abbrev pub TakeCall : Type 0
TakeCall = Call 0 take-kinds.ps take-kinds.r take-reads.Post

abbrev pub CountCall : Type 0
CountCall = Call 0 count-kinds.ps count-kinds.r count-reads.Post

-- what a call finds, and the record that its caller holds after it: the one answered, or its own where the number is refused
abbrev pub found : TakeCall → Res Arrivals
found c = told_as (λ b. b) c.answer

abbrev pub held : TakeCall → Arrivals
held c = kept_by (found c) c.args.0

-- calls of `take` from the record a on, one after the other; r is the record in the end
pub data Taking : Arrivals → List TakeCall → Arrivals → Type 0 where
  none : (a : Arrivals) → Taking a [] a
  next : (a r : Arrivals) (c : TakeCall) (cs : List TakeCall) → c.args.0 ≡ a → Taking (held c) cs r → Taking a (c ∷ cs) r

-- the numbers of the calls that took theirs
abbrev pub numbers_taken : List TakeCall → List ℕ
numbers_taken [] = []
numbers_taken (c ∷ cs) = with_taken (found c) c.args.1.0 (numbers_taken cs)

-- and of all of them
abbrev numbers_of : List TakeCall → List ℕ
numbers_of cs = map (λ c. c.args.1.0) cs

-- they take what the definition takes, and leave the record that it leaves
calls_take : (a : Arrivals) (cs : List TakeCall) (r : Arrivals) → Taking a cs r
    → (numbers_taken cs ≡ taken_of a (numbers_of cs)) × (r ≡ after_all a (numbers_of cs))
unfolding taken_of after_all
calls_take a [] r (none b) = (refl, refl)
calls_take a (c ∷ cs) r (next b r' d ds e t) =
    let n : ℕ = c.args.1.0 in
    let rest = calls_take (held c) cs r t in
    let finds : found c ≡ take_of a n = c.kept ∙ ap (λ (x : Arrivals). take_of x n) e in
    let after : held c ≡ kept_by (take_of a n) a = ap₂ kept_by finds e in (
      ap₂ (λ (R : Res Arrivals) (xs : List ℕ). with_taken R n xs) finds (rest.0 ∙ ap (λ (x : Arrivals). taken_of x (numbers_of cs)) after),
      rest.1 ∙ ap (λ (x : Arrivals). after_all x (numbers_of cs)) after,
    )

-- over any arrivals each number is taken at most once, from any record on
pub calls_once : (a : Arrivals) (cs : List TakeCall) (r : Arrivals) → Taking a cs r → unrepeated (numbers_taken cs) ≡ true
calls_once a cs r t = ap unrepeated (calls_take a cs r t).0 ∙ each_once a (numbers_of cs)

-- and the count, where the record was new, is of the numbers taken among the last 32
pub calls_counted : (m : NewCall) (cs : List TakeCall) (r : Arrivals) → Taking m.answer cs r → (c : CountCall) → c.args.0 ≡ r
    → c.answer ≡ last_of (highest_of (numbers_taken cs)) (numbers_taken cs)
calls_counted m cs r t c e =
    let w = calls_take m.answer cs r t in
    c.kept ∙ ap count_of e ∙ counted m.answer m.kept (numbers_taken cs) (numbers_of cs) r w.0 w.1

-- what the first record marks, or what is too old for it, is taken by no call
pub calls_never : (a : Arrivals) (cs : List TakeCall) (r : Arrivals) → Taking a cs r → (m : ℕ) → Barred a m → among m (numbers_taken cs) ≡ false
calls_never a cs r t m b = ap (among m) (calls_take a cs r t).0 ∙ never a (numbers_of cs) m b
