-- Laws that serve every step: what a refusal of its first stage, of its second, and an acceptance make of the promise.
use native.Mathlib.Omega.{arith}
use Rattle.std.proofs.lemmas.Grind.{common_steps}
use Prim.Native.Nat.{ℕ}
use Rattle.std.specs.Prelude.{Result, Ok, Err}
use Rattle.refusal.specs.Answer.{told_as, told}
use mathlib.Core.Bool.{Bool, true, false, cond}
use mathlib.Core.List.{List}
use mathlib.Core.Path.{◌≡◌, refl, sym, ◌∙◌, ap}
use lib.Dec.{eqb}
use lib.ListN.{length}
use Rattle.refusal.specs.Order.{Res, refuse, accept, need, and_then}
use Rattle.refusal.specs.Table.{number_of, value_of, among}
use Rattle.refusal.specs.declared.Refusal.{Refusal}
use Rattle.refusal.proofs.Order.{then_refuse, then_accept, refuse_as, refuse≢accept, accept_inj}
use Rattle.octets.specs.Place.{begun}
use Rattle.octets.proofs.Place.{begun_none}
use Rattle.session.specs.Record.{closed}
use Rattle.session.specs.Steps.{Made}
use Rattle.session.specs.Parts.{refused_at}
use Rattle.session.specs.Promise.{StepPromise, keeping}
use Rattle.session.specs.declared.Record.{Record}
use Rattle.session.specs.declared.Stepped.{Stepped}

-- every refusal of T has the property P
abbrev pub Only : {A : Type 0} → (ℕ → Type 0) → Res A → Type 0
Only P T = (n v : ℕ) → T ≡ refuse n v → P n

-- a refusal that leaves the record, and one that closes it; neither writes
abbrev pub Keeps : ℕ → Type 0
Keeps n = (among n keeping ≡ true) × (eqb n 31 ≡ false)

abbrev pub Shuts : ℕ → Type 0
Shuts n = (among n keeping ≡ false) × (eqb n 31 ≡ false)

-- a refusal that writes nothing
abbrev pub Quiet : ℕ → Type 0
Quiet n = eqb n 31 ≡ false

pub only_accept : {A : Type 0} (P : ℕ → Type 0) (a : A) → Only P (accept a)
only_accept P a n v e = grind (arith, common_steps)

pub only_need : {A : Type 0} (P : ℕ → Type 0) (b : Bool) (n v : ℕ) (r : Res A) → P n → Only P r → Only P (need b n v r)
unfolding need
only_need P true n v r p h k w e = h k w e
only_need P false n v r p h k w e = let f : n ≡ k = cc in rw f at p

pub only_then : {A B : Type 0} (P : ℕ → Type 0) (r : Res A) (f : A → Res B) → Only P r → ((a : A) → Only P (f a)) → Only P (and_then r f)
unfolding and_then
only_then P (refuse m u) f h g n v e = h n v (refuse_as m u n v e)
only_then P (accept a) f h g n v e = g a n v e

-- a step refused before the message is looked at: the record stays
pub kept : (R : Res Made) (s : Record) (out : List ℕ) (r : Refusal) (z : Stepped) → R ≡ refuse (number_of r) (value_of r) → Keeps (number_of r)
    → z ≡ refused_at s r → StepPromise R s out z out
kept R s out r z e k f = rw (e, f) (record { answer = refl; next = rw k.0; len = rw k.1; buffer = rw k.1 (sym (begun_none out)) })

-- a step refused for the message: the record closes
pub shut : (R : Res Made) (s : Record) (out : List ℕ) (r : Refusal) (y : Record) (z : Stepped) → R ≡ refuse (number_of r) (value_of r)
    → Shuts (number_of r) → y ≡ closed → z ≡ refused_at y r → StepPromise R s out z out
shut R s out r y z e k g f = rw (e, f, g) (record { answer = refl; next = rw k.0; len = rw k.1; buffer = rw k.1 (sym (begun_none out)) })

-- a refused Begin: the record was closed and is
pub either_way : (t : Bool) (s : Record) → cond t s s ≡ s
either_way true s = refl
either_way false s = refl

pub begin_stop : (R : Res Made) (out : List ℕ) (r : Refusal) (y : Record) (z : Stepped) → R ≡ refuse (number_of r) (value_of r)
    → Quiet (number_of r) → y ≡ closed → z ≡ refused_at y r → StepPromise R closed out z out
begin_stop R out r y z e k g f =
    rw (e, f, g) (record { answer = refl; next = sym (either_way (among (number_of r) keeping) closed); len = rw k; buffer = rw k (sym (begun_none out)) })

-- a refusal is told alike of an answer with a value and of one without
pub told_refused : {A B : Type 0} (f : A → B) (r : Result A Refusal) (n v : ℕ) → told_as f r ≡ refuse n v → told r ≡ refuse n v
told_refused f (Ok a) n v e = grind (arith, common_steps)
told_refused f (Err q) n v e = grind (arith, common_steps)

-- what a stage found, beside what is made of it
module _ {A B : Type 0} where
  pub beside_no : (R : Res A) (f : A → B) (n v : ℕ) → and_then {B = A × B} R (λ a. accept (a, f a)) ≡ refuse n v → R ≡ refuse n v
  unfolding and_then
  beside_no (refuse m u) f n v e = refuse_as m u n v e
  beside_no (accept a) f n v e = absurd (refuse≢accept n v _ (sym e))

  pub beside_yes : (R : Res A) (f : A → B) (a : A) (b : B) → and_then {B = A × B} R (λ a. accept (a, f a)) ≡ accept (a, b) → (R ≡ accept a) × (b ≡ f a)
  unfolding and_then
  beside_yes (refuse m u) f a b e = absurd (refuse≢accept m u _ e)
  beside_yes (accept x) f a b e =
      let p = accept_inj _ _ e in
      let q : x ≡ a = ap (λ (t : A × B). t.0) p in
      (ap accept q, sym (ap (λ (t : A × B). t.1) p) ∙ ap f q)

-- two stages one behind the other
module _ {A B : Type 0} (T : Res A) (U : Res B) (f : B → Res Made) where
  pub second_stop : (a : A) (n v : ℕ) → T ≡ accept a → U ≡ refuse n v → and_then T (λ _. and_then U f) ≡ refuse n v
  second_stop a n v e g = then_accept T _ a e ∙ then_refuse U f n v g

  pub second_go : (a : A) (b : B) → T ≡ accept a → U ≡ accept b → and_then T (λ _. and_then U f) ≡ f b
  second_go a b e g = then_accept T _ a e ∙ then_accept U f b g

pub promise_as : (R Q : Res Made) (s : Record) (out : List ℕ) (r : Stepped) (x : List ℕ) → R ≡ Q → StepPromise Q s out r x → StepPromise R s out r x
promise_as R Q s out r x e p = rw e p

-- a step that made something
pub step_made : (M : Made) (s : Record) (out : List ℕ) (st : Record) (n : ℕ) (x : List ℕ) → st ≡ M.next → n ≡ length M.bytes
    → x ≡ begun M.bytes out → StepPromise (accept M) s out (record { state = st; answer = Ok tt; len = n }) x
step_made M s out st n x e f g = record { answer = refl; next = e; len = f; buffer = g }
