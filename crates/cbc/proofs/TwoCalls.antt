-- Two calls on the two parts of one lent buffer are one call on the whole. Of a call nothing is used but its contract (`Call`, in refusal's specs).
use Prim.Native.Nat.{ℕ, ◌%◌}
use native.Mathlib.Omega.{arith}
use mathlib.Core.Path.{◌≡◌, refl, sym, ◌∙◌, ap, ap₂}
use mathlib.Core.List.{List, ◌++◌}
use lib.ListN.{length, length-append}
use Rattle.refusal.specs.Call.{Call}
use Rattle.refusal.proofs.Answer.{outcome_one}
use Rattle.cbc.specs.Cbc.{cbc_encrypt, cbc_decrypt}
use Rattle.cbc.specs.Promise.{CbcPromise}
use Rattle.cbc.specs.Halves.{handed_on, after_encrypt, after_decrypt, ByHalves, CbcSeen, TwoGoes, EncryptGoes, DecryptGoes, AsOne}
use Rattle.cbc.proofs.Halves.{encrypt_halves, decrypt_halves}
use Rattle.cbc.proofs.Promise.{cbc_done, done_whole, answer_alike}
use Rattle.cbc.proofs.cbc_encrypt.Kinds as encrypt-kinds
use Rattle.cbc.proofs.cbc_encrypt.Reads as encrypt-reads
use Rattle.cbc.proofs.cbc_decrypt.Kinds as decrypt-kinds
use Rattle.cbc.proofs.cbc_decrypt.Reads as decrypt-reads

-- the calls, and as they are seen from outside
abbrev pub EncryptCall : Type 0
EncryptCall = Call 1 encrypt-kinds.ps encrypt-kinds.r encrypt-reads.Post

abbrev pub DecryptCall : Type 0
DecryptCall = Call 1 decrypt-kinds.ps decrypt-kinds.r decrypt-reads.Post

abbrev pub seen_encrypt : EncryptCall → CbcSeen
seen_encrypt c = record { key = c.args.0; iv = c.args.1.0; lent = c.args.1.1.0.now; answer = c.answer; left = c.exit.1.1.0.now }

abbrev pub seen_decrypt : DecryptCall → CbcSeen
seen_decrypt c = record { key = c.args.0; iv = c.args.1.0; lent = c.args.1.1.0.now; answer = c.answer; left = c.exit.1.1.0.now }

-- over whatever keeps the law by halves
module _ (f after : List ℕ → List ℕ → List ℕ → List ℕ) (law : (key iv : List ℕ) → ByHalves (f key) (after key) iv) where
  abbrev Keeps : CbcSeen → Type 0
  Keeps s = CbcPromise s.lent (f s.key s.iv s.lent) s.answer s.left

  as_one : (cipher_text : CbcSeen → List ℕ) (first second whole : CbcSeen) → Keeps first → Keeps second → Keeps whole → TwoGoes cipher_text first second whole
      → handed_on first.iv (cipher_text first) ≡ after first.key first.iv first.lent → AsOne first second whole
  as_one cipher_text first second whole p q r t e =
      let h : length first.lent % 16 ≡ 0 = done_whole _ _ _ _ t.first_done p in
      let l : length whole.lent % 16 ≡ length second.lent % 16 = omega (arith, ap length t.parts, length-append first.lent second.lent) in
      record {
        answer = outcome_one _ _ (r.answer ∙ answer_alike _ _ _ _ l ∙ sym q.answer);
        left = λ d.
            let g : length second.lent % 16 ≡ 0 = done_whole _ _ _ _ d q in
            cbc_done _ _ _ _ (l ∙ g) r
            ∙ (λ i. f (sym t.first_key i) (sym t.first_iv i) (t.parts i))
            ∙ law first.key first.iv first.lent second.lent h g
            ∙ ap₂ ◌++◌ (sym (cbc_done _ _ _ _ h p))
            ((λ i. f ((t.first_key ∙ sym t.second_key) i) (sym (t.second_iv ∙ e) i) second.lent) ∙ sym (cbc_done _ _ _ _ g q));
      }

pub encrypt_as_one : (first second whole : EncryptCall) → EncryptGoes (seen_encrypt first) (seen_encrypt second) (seen_encrypt whole)
    → AsOne (seen_encrypt first) (seen_encrypt second) (seen_encrypt whole)
encrypt_as_one first second whole t =
    as_one cbc_encrypt after_encrypt encrypt_halves (λ s. s.left) _ _ _ first.kept second.kept whole.kept t
    (ap (handed_on (seen_encrypt first).iv) (cbc_done _ _ _ _ (done_whole _ _ _ _ t.first_done first.kept) first.kept))

pub decrypt_as_one : (first second whole : DecryptCall) → DecryptGoes (seen_decrypt first) (seen_decrypt second) (seen_decrypt whole)
    → AsOne (seen_decrypt first) (seen_decrypt second) (seen_decrypt whole)
decrypt_as_one first second whole t =
    as_one cbc_decrypt after_decrypt decrypt_halves (λ s. s.lent) _ _ _ first.kept second.kept whole.kept t refl
