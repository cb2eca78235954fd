-- Every packet that the frame rules build is accepted, with the message that it was built from.
use Prim.Native.Nat.{ℕ, zero, suc, ◌+◌, ◌-◌, ◌*◌, ◌/◌, ◌%◌, ◌≤◌, ◌<◌}
use native.Mathlib.Omega.{arith}
use mathlib.Core.Bool.{true, false, not}
use mathlib.Core.List.{List, [], ◌∷◌, ◌++◌, append_assoc, append-nil}
use mathlib.Core.Path.{◌≡◌, refl, sym, ◌∙◌, ap, ap₂}
use lib.ListN.{length, get_or, take, drop, length-append}
use lib.Seq.{take_at, drop_at, get_or_at}
use borrow.Author.Tests.{le-leb, eq-eqb, ne_eqb}
use Rattle.refusal.specs.Order.{Res, accept}
use Rattle.refusal.proofs.Order.{pass, then_accept}
use Rattle.octets.specs.Bytes.{Bytes}
use Rattle.octets.specs.Place.{part}
use Rattle.octets.specs.Equal.{same}
use Rattle.framing.specs.Known.{known}
use Rattle.framing.specs.Suite.{Suite, Laws}
use Rattle.framing.specs.Packet.{Message, Filling, Legal, bit, counting, plain_of, body_of, header_of, framed, covered, trailer, build}
use Rattle.framing.specs.Read.{longest_packet, message_of, body_length, head_of, coverage, code_of, trailer_of, before_trailer, unpadded, decrypted}
use Rattle.framing.specs.Read.{payload_in, body_in, payload_behind, rest_of, read_of, read_with}
use Rattle.octets.proofs.Bytes.{bytes_append, bytes_cons, bytes_nil}
use Rattle.octets.proofs.Number.{unle-le}
use Rattle.octets.proofs.Equal.{same_self}
use Rattle.octets.proofs.Order.{by_cases, cond_true, cond_false}
use Rattle.framing.proofs.Tests.{flag_type, flag_seven, flag_six, known_small}

pub length-counting : (p : ℕ) → length (counting p) ≡ p
length-counting zero = refl
length-counting (suc p) = simp length-append (omega (arith, length-counting p))

pub bytes_counting : (p : ℕ) → p ≤ 255 → Bytes (counting p)
bytes_counting zero h = bytes_nil
bytes_counting (suc p) h =
    let g : suc p < 256 = omega arith in
    bytes_append (counting p) (suc p ∷ []) (bytes_counting p (omega arith)) (bytes_cons (suc p) [] g bytes_nil)

pub length-plain : (payload : List ℕ) (p : ℕ) → length (plain_of payload p) ≡ length payload + p + 1
unfolding plain_of
length-plain payload p = simp (length-append, length-append) (omega (arith, length-counting p))

pub bytes_plain : (payload : List ℕ) (p : ℕ) → Bytes payload → p ≤ 255 → Bytes (plain_of payload p)
unfolding plain_of
bytes_plain payload p h g =
    let k : p < 256 = omega arith in
    bytes_append payload (counting p ++ (p ∷ [])) h (bytes_append (counting p) (p ∷ []) (bytes_counting p g) (bytes_cons p [] k bytes_nil))

-- what was decrypted, by what stands where
pub unpad_is : (x payload : List ℕ) (n p : ℕ) → length x - 1 ≡ n → get_or x n 0 ≡ p → p ≤ n → part x (n - p) p ≡ counting p
    → take (n - p) x ≡ payload → unpadded x ≡ accept payload
unfolding unpadded
unpad_is x payload n p hn hp h e f =
    let g : get_or x (length x - 1) 0 ≡ p = ap (λ (j : ℕ). get_or x j 0) hn ∙ hp in
    let fits : get_or x (length x - 1) 0 ≤ length x - 1 = omega arith in
    let front : length x - 1 - get_or x (length x - 1) 0 ≡ n - p = omega arith in
    let pad : part x (length x - 1 - get_or x (length x - 1) 0) (get_or x (length x - 1) 0) ≡ counting (get_or x (length x - 1) 0)
    = ap₂ (λ (i j : ℕ). part x i j) front g ∙ e ∙ ap counting (sym g) in
    pass _ _ _ _ (le-leb _ _ fits)
    (pass _ _ _ _ (ap (λ (y : List ℕ). same y (counting (get_or x (length x - 1) 0))) pad ∙ same_self (counting (get_or x (length x - 1) 0)))
    (ap accept (ap (λ (i : ℕ). take i x) front ∙ f)))

-- the pad comes off
pub unpad_plain : (payload : List ℕ) (p : ℕ) → unpadded (plain_of payload p) ≡ accept payload
unfolding plain_of
unpad_plain payload p =
    let count : length (counting p) ≡ p = length-counting p in
    let size : length (payload ++ counting p) ≡ length payload + p = simp length-append (omega arith) in
    let front : length payload + p - p ≡ length payload = omega arith in
    unpad_is (plain_of payload p) payload (length payload + p) p
    (omega (arith, length-plain payload p))
    (ap (λ (l : List ℕ). get_or l (length payload + p) 0) (sym (append_assoc payload (counting p) (p ∷ [])))
    ∙ get_or_at (payload ++ counting p) p [] 0 (length payload + p) size)
    (omega arith)
    (ap (λ (i : ℕ). part (plain_of payload p) i p) front ∙ ap (take p) (drop_at payload (counting p ++ (p ∷ [])) (length payload) refl)
    ∙ take_at (counting p) (p ∷ []) p count)
    (ap (λ (i : ℕ). take i (plain_of payload p)) front ∙ take_at payload (counting p ++ (p ∷ [])) (length payload) refl)

module _ (S : Suite) where
  -- the head, whatever follows the header
  pub head_built : (M : Message) (n : ℕ) (t : List ℕ) → known M.ty ≡ true → length t + 12 ≤ longest_packet S
      → head_of S (header_of S M n ++ t) ≡ accept M.ty
  unfolding head_of header_of
  head_built M n t k h =
      let b = 128 * bit S.aes + 64 * bit S.auth + M.ty in
      let small : M.ty < 64 = known_small M.ty k in
      let ty : b % 64 ≡ M.ty = flag_type S.aes S.auth M.ty small in
      let seven : b / 128 % 2 ≡ bit S.aes = flag_seven S.aes S.auth M.ty small in
      let six : b / 64 % 2 ≡ bit S.auth = flag_six S.aes S.auth M.ty small in
      let long : 10 ≤ length (header_of S M n ++ t) = omega arith in
      let short : length (header_of S M n ++ t) ≤ longest_packet S = omega arith in
      pass _ _ _ _ (le-leb _ _ long)
      (pass _ _ _ _ refl
      (pass _ _ _ _ (ap known ty ∙ k)
      (pass _ _ _ _ (eq-eqb _ _ seven)
      (pass _ _ _ _ (eq-eqb _ _ six)
      (pass _ _ _ _ (le-leb _ _ short)
      (ap accept ty))))))

  -- the message that it says, with the payload
  pub message_built : (M : Message) (n : ℕ) (t : List ℕ) → M.id < 0x100000000 → M.seq < 0x100000000
      → message_of M.ty (header_of S M n ++ t) M.payload ≡ M
  unfolding header_of
  message_built M n t g h = λ i. record { ty = M.ty; id = unle-le 4 M.id g i; seq = unle-le 4 M.seq h i; payload = M.payload }

  -- header and body
  pub body_built : (M : Message) (b : List ℕ) {r : Res (List ℕ)} → length b ≤ 65535 → payload_in S b ≡ r → body_in S (header_of S M (length b) ++ b) ≡ r
  unfolding body_in header_of
  body_built M b h e =
      let long : 12 ≤ length (header_of S M (length b) ++ b) = omega arith in
      let told : body_length (header_of S M (length b) ++ b) ≡ length (header_of S M (length b) ++ b) - 12
      = unle-le 2 (length b) (omega arith) ∙ omega arith in
      pass _ _ _ _ (le-leb _ _ long)
      (pass _ _ _ _ (eq-eqb _ _ told) e)

  -- the trailer, by what stands where
  pub trailer_is : (code l : List ℕ) (k q : ℕ) → coverage S l ≡ k → S.m + 2 ≤ length l → drop k l ≡ code → get_or l (k - 1) 0 ≡ 0x07 → get_or l (k - 2) 0 ≡ q
      → trailer_of S code l ≡ accept (k - 2 - q)
  unfolding trailer_of
  trailer_is code l k q c h e f g =
      let long : S.m ≤ length l = omega arith in
      pass _ _ _ _ (le-leb _ _ long)
      (pass _ _ _ _ (ap (λ (j : ℕ). same (drop j l) code) c ∙ ap (λ (x : List ℕ). same x code) e ∙ same_self code)
      (pass _ _ _ _ (le-leb _ _ h)
      (pass _ _ _ _ (eq-eqb _ _ (ap (λ (j : ℕ). get_or l (j - 1) 0) c ∙ f))
      (ap accept (ap (λ (j : ℕ). j - 2 - get_or l (j - 2) 0) c ∙ ap (λ (x : ℕ). k - 2 - x) g)))))

module _ (S : Suite) (M : Message) (F : Filling) where
  pub build_auth : S.auth ≡ true → build S M F ≡ covered S M F ++ S.mac (covered S M F)
  unfolding build
  build_auth e = cond_true S.auth (covered S M F ++ S.mac (covered S M F)) (framed S M F) e

  pub build_bare : S.auth ≡ false → build S M F ≡ framed S M F
  unfolding build
  build_bare e = cond_false S.auth (covered S M F ++ S.mac (covered S M F)) (framed S M F) e

  -- a packet is the header, the body, and with integrity the trailer
  pub build_is : build S M F ≡ framed S M F ++ trailer S M F
  unfolding covered trailer
  build_is =
      by_cases S.auth
      (λ e. build_auth e ∙ append_assoc (framed S M F) _ _
      ∙ ap (λ (l : List ℕ). framed S M F ++ l) (append_assoc F.pads _ _ ∙ sym (cond_true S.auth _ [] e)))
      (λ e. build_bare e ∙ sym (append-nil (framed S M F)) ∙ ap (λ (l : List ℕ). framed S M F ++ l) (sym (cond_false S.auth _ [] e)))

  pub build_whole : build S M F ≡ header_of S M (length (body_of S M F)) ++ (body_of S M F ++ trailer S M F)
  unfolding framed
  build_whole = build_is ∙ append_assoc (header_of S M (length (body_of S M F))) (body_of S M F) (trailer S M F)

  pub length-framed : length (framed S M F) ≡ 12 + length (body_of S M F)
  unfolding framed header_of
  length-framed = omega arith

module _ (S : Suite) (L : Laws S) where
  -- an encrypted body
  pub decrypted_built : (iv payload : List ℕ) (p : ℕ) → length iv ≡ 16 → Bytes iv → Bytes payload → p ≤ 255 → length (plain_of payload p) % 16 ≡ 0
      → decrypted S (iv ++ S.enc iv (plain_of payload p)) ≡ accept payload
  unfolding decrypted
  decrypted_built iv payload p hi bi bp hp w =
      let x = plain_of payload p in
      let b = iv ++ S.enc iv x in
      let size : length b ≡ 16 + length x = length-append iv (S.enc iv x) ∙ ap₂ (λ (i j : ℕ). i + j) hi (L.enc_length iv x w) in
      let some : length x ≡ length payload + p + 1 = length-plain payload p in
      let long : 16 ≤ length b = omega arith in
      let rest : length b - 16 ≡ length x = omega arith in
      let full : length b - 16 ≡ 0 → ⊥ = λ e. omega arith in
      let plain : S.dec (take 16 b) (drop 16 b) ≡ x
      = ap₂ S.dec (take_at iv (S.enc iv x) 16 hi) (drop_at iv (S.enc iv x) 16 hi) ∙ L.dec_enc iv x hi bi w (bytes_plain payload p bp hp) in
      pass _ _ _ _ (le-leb _ _ long)
      (pass _ _ _ _ (eq-eqb _ _ (ap (λ (i : ℕ). i % 16) rest ∙ w))
      (pass _ _ _ _ (ap not (ne_eqb _ _ full))
      (ap unpadded plain ∙ unpad_plain payload p)))

  module _ (M : Message) (F : Filling) (ok : Legal S M F) where
    -- the payload is found in the body
    pub payload_built : payload_in S (body_of S M F) ≡ accept M.payload
    unfolding payload_in body_of
    payload_built =
        by_cases S.aes
        (λ e. cond_true S.aes (decrypted S (body_of S M F)) (accept (body_of S M F)) e
        ∙ ap (decrypted S) (cond_true S.aes (F.iv ++ S.enc F.iv (plain_of M.payload F.p)) M.payload e)
        ∙ decrypted_built F.iv M.payload F.p (ok.iv_size e) (ok.iv_bytes e) ok.payload_bytes (ok.p_fits e) (ok.whole e))
        (λ e. cond_false S.aes (decrypted S (body_of S M F)) (accept (body_of S M F)) e
        ∙ ap accept (cond_false S.aes (F.iv ++ S.enc F.iv (plain_of M.payload F.p)) M.payload e))

    framed_body : body_in S (framed S M F) ≡ accept M.payload
    unfolding framed
    framed_body = body_built S M (body_of S M F) ok.body_fits payload_built

    pub length_trailer : length (trailer S M F) ≤ 257 + S.m
    unfolding trailer
    length_trailer =
        by_cases S.auth
        (λ e. let few : length F.pads ≤ 255 = ok.pads_few e in
        let size : length (F.pads ++ (length F.pads ∷ 0x07 ∷ S.mac (covered S M F))) ≤ 257 + S.m
        = simp length-append (omega (arith, L.mac_length (covered S M F))) in
        rw (cond_true S.auth (F.pads ++ (length F.pads ∷ 0x07 ∷ S.mac (covered S M F))) [] e) size)
        (λ e. let size : length {A = ℕ} [] ≤ 257 + S.m = omega arith in
        rw (cond_false S.auth (F.pads ++ (length F.pads ∷ 0x07 ∷ S.mac (covered S M F))) [] e) size)

    -- what the code covers, and where the trailer begins
    pub trailer_built : before_trailer S (code_of S (build S M F)) (build S M F) ≡ accept (length (framed S M F))
    unfolding before_trailer covered
    trailer_built =
        by_cases S.auth
        (λ e.
        let C = covered S M F in
        let l = build S M F in
        let split : l ≡ C ++ S.mac C = build_auth S M F e in
        let size : length C ≡ length (framed S M F) + length F.pads + 2 = simp (length-append, length-append) (omega arith) in
        let long : length l ≡ length C + S.m = ap length split ∙ length-append C (S.mac C) ∙ ap (λ (n : ℕ). length C + n) (L.mac_length C) in
        let cover : coverage S l ≡ length C = omega arith in
        let code : code_of S l ≡ S.mac C = ap S.mac (ap₂ take cover split ∙ take_at C (S.mac C) (length C) refl) in
        let enough : S.m + 2 ≤ length l = omega arith in
        let start : length C - 2 - length F.pads ≡ length (framed S M F) = omega arith in
        let before7 : List ℕ = framed S M F ++ (F.pads ++ (length F.pads ∷ [])) in
        let at7 : length before7 ≡ length C - 1 = simp (length-append, length-append) (omega arith) in
        let seven : C ++ S.mac C ≡ before7 ++ 0x07 ∷ S.mac C = simp append_assoc in
        let atq : length (framed S M F ++ F.pads) ≡ length C - 2 = simp length-append (omega arith) in
        let count : C ++ S.mac C ≡ (framed S M F ++ F.pads) ++ length F.pads ∷ (0x07 ∷ S.mac C) = simp append_assoc in
        cond_true S.auth (trailer_of S (code_of S l) l) (accept (length l)) e
        ∙ trailer_is S (code_of S l) l (length C) (length F.pads) cover enough
        (ap (drop (length C)) split ∙ drop_at C (S.mac C) (length C) refl ∙ sym code)
        (ap (λ (x : List ℕ). get_or x (length C - 1) 0) (split ∙ seven) ∙ get_or_at before7 0x07 (S.mac C) 0 (length C - 1) at7)
        (ap (λ (x : List ℕ). get_or x (length C - 2) 0) (split ∙ count)
        ∙ get_or_at (framed S M F ++ F.pads) (length F.pads) (0x07 ∷ S.mac C) 0 (length C - 2) atq)
        ∙ ap accept start)
        (λ e. cond_false S.auth (trailer_of S (code_of S (build S M F)) (build S M F)) (accept (length (build S M F))) e
        ∙ ap accept (ap length (build_bare S M F e)))

    pub complete : read_of S (build S M F) ≡ accept M
    unfolding read_of read_with rest_of payload_behind
    complete =
        let l = build S M F in
        let b = body_of S M F in
        let h = header_of S M (length b) in
        let whole : l ≡ h ++ (b ++ (trailer S M F)) = build_whole S M F in
        let fits : length (b ++ (trailer S M F)) + 12 ≤ longest_packet S = simp length-append (omega (arith, length_trailer, ok.body_fits)) in
        then_accept (head_of S l) (rest_of S (code_of S l) l) M.ty (ap (head_of S) whole ∙ head_built S M (length b) (b ++ (trailer S M F)) ok.ty_known fits)
        ∙ then_accept (payload_behind S (code_of S l) l) _ M.payload
        (then_accept (before_trailer S (code_of S l) l) _ (length (framed S M F)) trailer_built
        ∙ ap (body_in S) (ap (take (length (framed S M F))) (build_is S M F) ∙ take_at (framed S M F) (trailer S M F) (length (framed S M F)) refl)
        ∙ framed_body)
        ∙ ap accept (ap (λ (x : List ℕ). message_of M.ty x M.payload) whole
        ∙ message_built S M (length b) (b ++ (trailer S M F)) ok.id_fits ok.seq_fits)
