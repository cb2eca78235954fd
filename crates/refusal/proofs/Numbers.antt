-- What the table of refusals is sure of: its numbers are those listed, each is used once, none is a retired one, and a refusal is known by
-- its number and its value. Proofs outside this crate cite these laws and never go through the cases.
use Prim.Native.Nat.{ℕ}
use mathlib.Core.Bool.{Bool, true, false, false≢true, cond, ◌||◌, ◌&&◌, not, or-true}
use mathlib.Core.List.{List, [], ◌∷◌, map}
use mathlib.Core.Path.{◌≡◌, refl, sym, ◌∙◌, ap, ap₂, subst}
use mathlib.Core.Logic.{inl, inr}
use lib.Dec.{eqb}
use denote.Enum.Declared.{tag_of}
use types.Run.{OneOf}
use borrow.Author.Tests.{eq-eqb, eqb-true, not-true}
use Rattle.refusal.specs.contracts.Refusal.{the_type}
use Rattle.refusal.specs.Table.{number_of, value_of, carries_of, among, unrepeated, numbers, retired}
use Rattle.refusal.specs.declared.Refusal.{Refusal}
use Rattle.refusal.specs.declared.Refusal.TheVariants as refusal

-- a case of each kind, in the order of the enum; those that carry a byte with the byte v
abbrev pub table : ℕ → List Refusal
table v =
    refusal.NotEnoughData ∷
    refusal.NotIpmiV2_0 ∷
    refusal.InvalidPayloadType v ∷
    refusal.MismatchingEncryptionState ∷
    refusal.MismatchingAuthenticationState ∷
    refusal.IncorrectIntegrityTrailerLen ∷
    refusal.AuthCodeMismatch ∷
    refusal.UnknownNextHeader v ∷
    refusal.IncorrectPayloadLen ∷
    refusal.IncorrectConfidentialityTrailerLen ∷
    refusal.InvalidConfidentialityTrailer ∷
    refusal.NotWholeBlocks ∷
    refusal.PayloadTooLong ∷
    refusal.EncryptedPayloadTooLong ∷
    refusal.OutputTooShort ∷
    refusal.NotRmcpForIpmi ∷
    refusal.NamedStatus v ∷
    refusal.UnnamedStatus v ∷
    refusal.InvalidPrivilegeLevel v ∷
    refusal.ZeroRemoteConsoleSessionId ∷
    refusal.ZeroManagedSystemSessionId ∷
    refusal.IncorrectPayloadLenValue ∷
    refusal.UnknownAlgorithm v ∷
    refusal.UnknownBlockType v ∷
    refusal.WrongKindOfBlock ∷
    refusal.MessageTagMismatch ∷
    refusal.SessionIdMismatch ∷
    refusal.AlgorithmNotCarried ∷
    refusal.InvalidKeyExchangeAuthCodeLen ∷
    refusal.Declined ∷
    refusal.InvalidIntegrityCheckValue ∷
    refusal.WrongStep ∷
    refusal.InvalidUsername ∷
    refusal.InvalidKgLen ∷
    refusal.PasswordTooLong ∷
    refusal.TooLongToHash ∷
    refusal.AlreadyTaken ∷
    refusal.TooOld ∷
    refusal.UsernameTooLong ∷ []

-- the refusal of a number in a list
abbrev find : ℕ → List Refusal → Refusal
find n [] = refusal.NotEnoughData
find n (r ∷ rs) = cond (eqb n (number_of r)) r (find n rs)

-- the refusal of a number and a value
abbrev pub refusal_of : ℕ → ℕ → Refusal
refusal_of n v = find n (table v)

-- a refusal is the one that its number and value name; all laws below rest on this one, and on tests of the table
pub known : (r : Refusal) → refusal_of (number_of r) (value_of r) ≡ r
known refusal.NotEnoughData = refl
known refusal.NotIpmiV2_0 = refl
known (refusal.InvalidPayloadType b) = refl
known refusal.MismatchingEncryptionState = refl
known refusal.MismatchingAuthenticationState = refl
known refusal.IncorrectIntegrityTrailerLen = refl
known refusal.AuthCodeMismatch = refl
known (refusal.UnknownNextHeader b) = refl
known refusal.IncorrectPayloadLen = refl
known refusal.IncorrectConfidentialityTrailerLen = refl
known refusal.InvalidConfidentialityTrailer = refl
known refusal.NotWholeBlocks = refl
known refusal.PayloadTooLong = refl
known refusal.EncryptedPayloadTooLong = refl
known refusal.OutputTooShort = refl
known refusal.NotRmcpForIpmi = refl
known (refusal.NamedStatus b) = refl
known (refusal.UnnamedStatus b) = refl
known (refusal.InvalidPrivilegeLevel b) = refl
known refusal.ZeroRemoteConsoleSessionId = refl
known refusal.ZeroManagedSystemSessionId = refl
known refusal.IncorrectPayloadLenValue = refl
known (refusal.UnknownAlgorithm b) = refl
known (refusal.UnknownBlockType b) = refl
known refusal.WrongKindOfBlock = refl
known refusal.MessageTagMismatch = refl
known refusal.SessionIdMismatch = refl
known refusal.AlgorithmNotCarried = refl
known refusal.InvalidKeyExchangeAuthCodeLen = refl
known refusal.Declined = refl
known refusal.InvalidIntegrityCheckValue = refl
known refusal.WrongStep = refl
known refusal.InvalidUsername = refl
known refusal.InvalidKgLen = refl
known refusal.PasswordTooLong = refl
known refusal.TooLongToHash = refl
known refusal.AlreadyTaken = refl
known refusal.TooOld = refl
known refusal.UsernameTooLong = refl

-- two refusals with the same number and value are equal
pub told_one : (a b : Refusal) → number_of a ≡ number_of b → value_of a ≡ value_of b → a ≡ b
told_one a b e f = sym (known a) ∙ ap₂ refusal_of e f ∙ known b

-- no number is used twice: two refusals with one number are one case of the table, and differ at most in the byte
pub once : (a b : Refusal) → number_of a ≡ number_of b → a ≡ refusal_of (number_of b) (value_of a)
once a b e = sym (known a) ∙ ap (λ (n : ℕ). refusal_of n (value_of a)) e

-- whatever byte is carried, the table's numbers are those listed, in this order
pub listed : (v : ℕ) → map number_of (table v) ≡ numbers
listed v = refl

-- and none is listed twice
pub listed_once : unrepeated numbers ≡ true
listed_once = refl

both : (a b : Bool) → (a && b) ≡ true → (a ≡ true) × (b ≡ true)
both true b e = (refl, e)
both false b e = absurd (false≢true e)

-- a test of every refusal in a list
abbrev all : (Refusal → Bool) → List Refusal → Bool
all p [] = true
all p (r ∷ rs) = p r && all p rs

module _ (p : Refusal → Bool) where
  picked : (b : Bool) (r s : Refusal) → p r ≡ true → p s ≡ true → p (cond b r s) ≡ true
  picked true r s e f = e
  picked false r s e f = f

  all_found : (n : ℕ) (l : List Refusal) → p refusal.NotEnoughData ≡ true → all p l ≡ true → p (find n l) ≡ true
  all_found n [] d e = d
  all_found n (r ∷ rs) d e =
      let h = both (p r) (all p rs) e in
      picked (eqb n (number_of r)) r (find n rs) h.0 (all_found n rs d h.1)

  -- a test that the table passes, whatever byte is carried, every refusal passes
  every : ((v : ℕ) → all p (table v) ≡ true) → (r : Refusal) → p r ≡ true
  every t r =
      let h = all_found (number_of r) (table (value_of r)) (both _ _ (t 0)).0 (t (value_of r)) in
      subst (λ (x : Refusal). p x ≡ true) (known r) h

-- every refusal's number is one of the table's
pub within : (r : Refusal) → among (number_of r) numbers ≡ true
within r = every (λ x. among (number_of x) numbers) (λ v. refl) r

-- and none has a number that was retired
pub retired_unused : (r : Refusal) (n : ℕ) → among n retired ≡ true → number_of r ≡ n → ⊥
retired_unused r n h e =
    let u = not-true _ (every (λ x. not (among (number_of x) retired)) (λ v. refl) r) in
    false≢true (sym u ∙ ap (λ (k : ℕ). among k retired) e ∙ h)

-- 26 was retired: none has it
pub none_26 : (r : Refusal) → number_of r ≡ 26 → ⊥
none_26 r = retired_unused r 26 refl

first_or : (a b : Bool) → (a || b) ≡ true → a ≡ false → b ≡ true
first_or true b e f = absurd (false≢true (sym f))
first_or false b e f = e

-- where no byte is carried the value is 0
pub uncarried : (r : Refusal) → carries_of r ≡ false → value_of r ≡ 0
uncarried r e = eqb-true _ _ (first_or (carries_of r) _ (every (λ x. carries_of x || eqb (value_of x) 0) (λ v. refl) r) e)

-- the places in the enum of the cases that carry nothing
abbrev bare_of : List Refusal → List ℕ
bare_of [] = []
bare_of (r ∷ rs) = cond (carries_of r) (bare_of rs) (tag_of the_type r ∷ bare_of rs)

abbrev pub bare : List ℕ
bare = bare_of (table 0)

-- a key that a match has hit is in its list
hit : (k : ℕ) (ks : List ℕ) (x : ℕ) → OneOf (k ∷ ks) x → among x (k ∷ ks) ≡ true
hit k [] x e = ap (λ (t : Bool). t || false) (eq-eqb x k e)
hit k (j ∷ js) x (inl e) = ap (λ (t : Bool). t || among x (j ∷ js)) (eq-eqb x k e)
hit k (j ∷ js) x (inr h) = rw (hit j js x h) (or-true (eqb x k))

hits : (ks : List ℕ) (x : ℕ) → OneOf ks x → among x ks ≡ true
hits [] x h = absurd h
hits (k ∷ ks) x h = hit k ks x h

-- what the last arm of a match knows, after an arm for each case that carries a byte
pub rest : (r : Refusal) → OneOf bare (tag_of the_type r) → carries_of r ≡ false
rest r h = not-true _ (first_or _ _ (every bareness (λ v. refl) r) (ap not (hits bare (tag_of the_type r) h)))
  where
    bareness : Refusal → Bool
    bareness x = not (among (tag_of the_type x) bare) || not (carries_of x)
