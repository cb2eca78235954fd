-- CBC over joined runs of whole blocks, in two goes (docs/RULES.md, 4.3.3; SP 800-38A, 6.2): which block the first go hands on, what the law
-- says, and what two calls are to one.
use Rattle.std.specs.Prelude.{Result, Ok, ℕ, ◌-◌, ◌%◌, List, [], ◌∷◌, ◌++◌, ◌≡◌, length, drop}
use Rattle.refusal.specs.declared.Refusal.{Refusal}
use Rattle.cbc.specs.Cbc.{cbc_encrypt}

-- the block that is handed on behind the cipher text c: its last sixteen bytes, or the IV if c is empty
unfoldable pub handed_on : List ℕ → List ℕ → List ℕ
handed_on iv [] = iv
handed_on iv (x ∷ c) = drop (length (x ∷ c) - 16) (x ∷ c)

-- the second go's IV, where the first went over a under iv: encryption makes the cipher text
abbrev pub after_encrypt : List ℕ → List ℕ → List ℕ → List ℕ
after_encrypt key iv a = handed_on iv (cbc_encrypt key iv a)

-- decryption is given it
abbrev pub after_decrypt : List ℕ → List ℕ → List ℕ → List ℕ
after_decrypt key iv a = handed_on iv a

-- f over any two joined runs of whole blocks, under iv, is f over the first and behind it f over the second, under what `after` hands on
abbrev pub ByHalves : (f after : List ℕ → List ℕ → List ℕ) → List ℕ → Type 0
ByHalves f after iv = (a b : List ℕ) → length a % 16 ≡ 0 → length b % 16 ≡ 0 → f iv (a ++ b) ≡ f iv a ++ f (after iv a) b

-- a call of `cbc_encrypt` or of `cbc_decrypt` as it is seen from outside: its key and IV, the bytes that it was lent, its answer, what it left of them
pub record CbcSeen : Type 0 where
  pub key : List ℕ
  pub iv : List ℕ
  pub lent : List ℕ
  pub answer : Result Unit Refusal
  pub left : List ℕ

-- two calls on the two parts of the buffer that a third is lent whole, under its key. The first has the third's IV and is not refused; the second's IV
-- is the block that is handed on behind the first's cipher text, which `cipher_text` tells
pub record TwoGoes (cipher_text : CbcSeen → List ℕ) (first second whole : CbcSeen) : Type 0 where
  pub parts : whole.lent ≡ first.lent ++ second.lent
  pub first_key : first.key ≡ whole.key
  pub second_key : second.key ≡ whole.key
  pub first_iv : first.iv ≡ whole.iv
  pub second_iv : second.iv ≡ handed_on first.iv (cipher_text first)
  pub first_done : first.answer ≡ Ok tt

-- encryption leaves the cipher text, decryption is lent it
abbrev pub EncryptGoes : (first second whole : CbcSeen) → Type 0
EncryptGoes = TwoGoes (λ s. s.left)

abbrev pub DecryptGoes : (first second whole : CbcSeen) → Type 0
DecryptGoes = TwoGoes (λ s. s.lent)

-- together they are the third: it answers what the second answers, and unless that is a refusal it leaves what the two leave
pub record AsOne (first second whole : CbcSeen) : Type 0 where
  pub answer : whole.answer ≡ second.answer
  pub left : second.answer ≡ Ok tt → whole.left ≡ first.left ++ second.left
