-- CBC by halves: the law for encryption and the law for decryption, each an instance of the law of the run over joined blocks.
use Prim.Native.Nat.{ℕ, zero, suc, ◌+◌, ◌*◌, ◌-◌, ◌/◌, ◌%◌, ◌≤◌}
use native.Mathlib.Omega.{arith}
use mathlib.Core.Path.{◌≡◌, refl, sym, ◌∙◌, ap, ap₂}
use mathlib.Core.List.{List, [], ◌∷◌, ◌++◌, append-nil}
use lib.ListN.{length, take, drop, length-append, length-drop, take-append-drop}
use lib.Seq.{length-take-le, take_all, drop-append_seam, drop-append-add}
use Rattle.octets.specs.Place.{part}
use Rattle.octets.proofs.Place.{none_left}
use Rattle.aes.specs.Key.{key_expansion}
use Rattle.cbc.specs.Cbc.{encrypt_blocks, decrypt_blocks, cbc_encrypt, cbc_decrypt}
use Rattle.cbc.specs.Halves.{handed_on, after_encrypt, after_decrypt, ByHalves}
use Rattle.cbc.proofs.Run.{run, chained, run_join, run_length, sealed, opened, kept, sealed_length, encrypt_run, decrypt_run}

-- what is handed on is the last block
pub handed_last : (v a b : List ℕ) → length b ≡ 16 → handed_on v (a ++ b) ≡ b
unfolding handed_on
handed_last v [] [] h = absurd (omega arith)
handed_last v [] (y ∷ b) h =
    let z : length (y ∷ b) - 16 ≡ 0 = omega arith in
    ap (λ (k : ℕ). drop k (y ∷ b)) z
handed_last v (x ∷ a) b h =
    let k : length ((x ∷ a) ++ b) - 16 ≡ length (x ∷ a) = omega (arith, length-append (x ∷ a) b) in
    ap (λ (k : ℕ). drop k ((x ∷ a) ++ b)) k ∙ drop-append_seam (x ∷ a) b

-- as a caller finds it in a buffer
pub handed_none : (v c : List ℕ) → length c ≡ 0 → v ≡ handed_on v c
unfolding handed_on
handed_none v c h = ap (handed_on v) (none_left c h)

pub handed_part : (v c : List ℕ) → 16 ≤ length c → part c (length c - 16) 16 ≡ handed_on v c
unfolding handed_on
handed_part v [] h = absurd (omega arith)
handed_part v (x ∷ c) h = take_all 16 (drop (length (x ∷ c) - 16) (x ∷ c)) (omega (arith, length-drop (length (x ∷ c) - 16) (x ∷ c)))

-- behind a block and more blocks it does not matter what stood before them
pub handed_behind : (v x l : List ℕ) (n : ℕ) → length x ≡ 16 → length l ≡ 16 * n → handed_on v (x ++ l) ≡ handed_on x l
unfolding handed_on
handed_behind v [] l n h e = absurd (omega arith)
handed_behind v (y ∷ x) [] n h e = ap (handed_on v) (append-nil (y ∷ x)) ∙ handed_last v [] (y ∷ x) h
handed_behind v (y ∷ x) (z ∷ l) n h e =
    let k : length ((y ∷ x) ++ (z ∷ l)) - 16 ≡ length (y ∷ x) + (length (z ∷ l) - 16) = omega (arith, length-append (y ∷ x) (z ∷ l)) in
    ap (λ (k : ℕ). drop k ((y ∷ x) ++ (z ∷ l))) k ∙ drop-append-add (y ∷ x) (z ∷ l) (length (z ∷ l) - 16)

-- what a run chains on is handed on behind all that it chains, where it makes what it chains
made_last : (next : List ℕ → List ℕ → List ℕ) → ((v b : List ℕ) → length (next v b) ≡ 16) → (v : List ℕ) (n : ℕ) (d : List ℕ)
    → chained next v n d ≡ handed_on v (run next next v n d)
unfolding chained run handed_on
made_last next h v zero d = refl
made_last next h v (suc n) d =
    let c : List ℕ = next v (take 16 d) in
    made_last next h c n (drop 16 d) ∙ sym (handed_behind v c _ n (h v (take 16 d)) (run_length next next h c n (drop 16 d)))

-- and where it is given it
kept_last : (v : List ℕ) (n : ℕ) (d : List ℕ) → length d ≡ 16 * n → chained kept v n d ≡ handed_on v d
unfolding chained
kept_last v zero d h = handed_none v d h
kept_last v (suc n) d h =
    let e : length (drop 16 d) ≡ 16 * n = omega (arith, length-drop 16 d) in
    kept_last (take 16 d) n (drop 16 d) e
    ∙ sym (handed_behind v (take 16 d) (drop 16 d) n (length-take-le 16 d (omega arith)) e)
    ∙ ap (handed_on v) (take-append-drop 16 d)

-- the law of the run, for what is a run over whole messages
module _ (out next : List ℕ → List ℕ → List ℕ) (f : List ℕ → ℕ → List ℕ → List ℕ)
    (e : (v : List ℕ) (n : ℕ) (d : List ℕ) → f v n d ≡ run out next v n d) where
  halves : (v a b : List ℕ) → length a % 16 ≡ 0
      → f v (length (a ++ b) / 16) (a ++ b) ≡ f v (length a / 16) a ++ f (chained next v (length a / 16) a) (length b / 16) b
  halves v a b h =
      let m : ℕ = length a / 16 in
      let n : ℕ = length b / 16 in
      let q : length (a ++ b) / 16 ≡ m + n = omega (arith, length-append a b) in
      let g : length a ≡ 16 * m = omega arith in
      ap (λ (k : ℕ). f v k (a ++ b)) q ∙ e v (m + n) (a ++ b) ∙ run_join out next v m n a b g
      ∙ ap₂ ◌++◌ (sym (e v m a)) (sym (e (chained next v m a) n b))

pub encrypt_halves : (key iv : List ℕ) → ByHalves (cbc_encrypt key) (after_encrypt key) iv
unfolding cbc_encrypt
encrypt_halves key iv a b h g =
    let w : List ℕ = key_expansion key in
    let m : ℕ = length a / 16 in
    let c : chained (sealed w) iv m a ≡ handed_on iv (cbc_encrypt key iv a) =
    made_last (sealed w) (sealed_length w) iv m a ∙ ap (handed_on iv) (sym (encrypt_run w iv m a)) in
    halves (sealed w) (sealed w) (encrypt_blocks w) (encrypt_run w) iv a b h
    ∙ ap (λ (v : List ℕ). cbc_encrypt key iv a ++ cbc_encrypt key v b) c

pub decrypt_halves : (key iv : List ℕ) → ByHalves (cbc_decrypt key) (after_decrypt key) iv
unfolding cbc_decrypt
decrypt_halves key iv a b h g =
    let w : List ℕ = key_expansion key in
    let m : ℕ = length a / 16 in
    halves (opened w) kept (decrypt_blocks w) (decrypt_run w) iv a b h
    ∙ ap (λ (v : List ℕ). cbc_decrypt key iv a ++ cbc_decrypt key v b) (kept_last iv m a (omega arith))
