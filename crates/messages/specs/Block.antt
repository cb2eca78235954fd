-- Algorithm blocks (docs/RULES.md, 7.1 to 7.3 and 7.11; the Standard, 13.17 and 13.18): eight bytes, the type at 0, the length 8 at 3,
-- the algorithm's code at 4, the others reserved.
use Rattle.std.specs.Prelude.{ℕ, List, [], ◌∷◌, eqb, leb, get_or}
use Rattle.refusal.specs.Order.{Res, accept, need, and_then}
use Rattle.messages.specs.Auth.{authentication_code, integrity_code, confidentiality_code, coded}
use Rattle.messages.specs.declared.open_session.AlgorithmPayload.{AlgorithmPayload}
use Rattle.messages.specs.declared.open_session.AlgorithmPayload.TheVariants.{Authentication, Integrity, Confidentiality}

-- what a block says: the type, 0 authentication, 1 integrity, 2 confidentiality; and the algorithm's code
pub record Block : Type 0 where
  pub type : ℕ
  pub code : ℕ

-- the code c in a block of the type t
unfoldable pub known : ℕ → ℕ → Res Block
known t c = and_then (coded t c) (λ k. accept (record { type = t; code = k }))

-- reading one block of eight bytes, in the order of the refusals
unfoldable pub block_of : List ℕ → Res Block
block_of l =
    need (eqb (get_or l 3 0) 8) 22 0
    (need (leb (get_or l 0 0) 2) 24 (get_or l 0 0)
    (known (get_or l 0 0) (get_or l 4 0)))

-- a block in the place of the type t: another type there is 25
unfoldable pub of_type : ℕ → Res Block → Res ℕ
of_type t r = and_then r (λ b. need (eqb b.type t) 25 0 (accept b.code))

-- how a block is written
abbrev pub block_bytes : ℕ → ℕ → List ℕ
block_bytes t c = t ∷ 0 ∷ 0 ∷ 0x08 ∷ c ∷ 0 ∷ 0 ∷ 0 ∷ []

-- what each case says
abbrev pub numbers : AlgorithmPayload → Block
numbers (Authentication a) = record { type = 0; code = authentication_code a }
numbers (Integrity i) = record { type = 1; code = integrity_code i }
numbers (Confidentiality c) = record { type = 2; code = confidentiality_code c }

abbrev pub bytes_of : AlgorithmPayload → List ℕ
bytes_of p = block_bytes (numbers p).type (numbers p).code
