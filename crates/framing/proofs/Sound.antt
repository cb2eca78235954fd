-- Every packet that is accepted is one that the frame rules build from the message that was found.
use Prim.Native.Nat.{ℕ, zero, suc, ◌+◌, ◌-◌, ◌*◌, ◌/◌, ◌%◌, ◌≤◌, ◌<◌}
use native.Mathlib.Omega.{arith}
use native.Mathlib.Numerals.{add-one}
use mathlib.Core.Bool.{true, false, false≢true, cond}
use mathlib.Core.List.{List, [], ◌∷◌, ◌++◌}
use mathlib.Core.Path.{◌≡◌, refl, sym, ◌∙◌, ap, ap₂, subst}
use lib.ListN.{length, get_or, take, drop, length-take, length-drop, take-append-drop, drop_of_length-le}
use lib.Seq.{take_at, drop_at, take-length, length-take-le, take-add, drop-drop, drop-cons, take-take}
use borrow.Author.Tests.{leb-true, eqb-true, eqb-false, not-true}
use Rattle.refusal.specs.Order.{accept}
use Rattle.refusal.proofs.Order.{need_inv, then_inv, accept_inj}
use Rattle.octets.specs.Bytes.{Bytes}
use Rattle.octets.specs.Number.{le, unle}
use Rattle.octets.specs.Place.{part}
use Rattle.framing.specs.Known.{known}
use Rattle.framing.specs.Suite.{Suite, Laws}
use Rattle.framing.specs.Packet.{Message, Filling, Legal, bit, counting, plain_of, body_of, header_of, framed, covered, build}
use Rattle.framing.specs.Read.{longest_packet, message_of, body_length, head_of, coverage, code_of, trailer_of, before_trailer, unpadded, decrypted}
use Rattle.framing.specs.Read.{payload_in, body_in, payload_behind, rest_of, read_of, read_with}
use Rattle.octets.proofs.Bytes.{bytes_take, bytes_drop, bytes_part}
use Rattle.octets.proofs.Number.{le-unle}
use Rattle.octets.proofs.Equal.{same_true}
use Rattle.octets.proofs.Order.{by_cases, cond_true, cond_false}
use Rattle.framing.proofs.Tests.{flags_back}

-- two elements
take_two : (l : List ℕ) (j : ℕ) → j + 2 ≤ length l → take 2 (drop j l) ≡ get_or l j 0 ∷ get_or l (j + 1) 0 ∷ []
take_two l j h =
    let first : j < length l = omega arith in
    let second : suc j < length l = omega arith in
    ap (take 2) (drop-cons l j 0 first ∙ ap (λ (x : List ℕ). get_or l j 0 ∷ x) (drop-cons l (suc j) 0 second))
    ∙ ap (λ (n : ℕ). get_or l j 0 ∷ get_or l n 0 ∷ []) (sym (add-one j))

-- a number's bytes come back where so many are there
part_number : (l : List ℕ) (a w : ℕ) → Bytes l → a + w ≤ length l → le w (unle (part l a w)) ≡ part l a w
part_number l a w h g =
    let size : length (part l a w) ≡ w = length-take-le w (drop a l) (rw (length-drop a l) (omega arith)) in
    ap (λ (n : ℕ). le n (unle (part l a w))) (sym size) ∙ le-unle (part l a w) (bytes_part l a w h)

positive : (n : ℕ) → (n ≡ 0 → ⊥) → 1 ≤ n
positive zero h = absurd (h refl)
positive (suc n) h = omega arith

-- numbers of four and of two bytes fit
four_fit : (x : List ℕ) → Bytes x → length x ≡ 4 → unle x < 0x100000000
four_fit [] h e = omega arith
four_fit (a ∷ []) h e = omega arith
four_fit (a ∷ b ∷ []) h e = omega arith
four_fit (a ∷ b ∷ c ∷ []) h e = omega arith
four_fit (a ∷ b ∷ c ∷ d ∷ []) h e = omega (arith, h 0, h 1, h 2, h 3)
four_fit (a ∷ b ∷ c ∷ d ∷ f ∷ x) h e = omega arith

two_fit : (x : List ℕ) → Bytes x → length x ≡ 2 → unle x ≤ 65535
two_fit [] h e = omega arith
two_fit (a ∷ []) h e = omega arith
two_fit (a ∷ b ∷ []) h e = omega (arith, h 0, h 1)
two_fit (a ∷ b ∷ c ∷ x) h e = omega arith

-- what was decrypted is the payload, the pad and its count
pub unpad_inv : (x payload : List ℕ) → 1 ≤ length x → unpadded x ≡ accept payload → x ≡ plain_of payload (get_or x (length x - 1) 0)
unfolding unpadded plain_of
unpad_inv x payload h e =
    let n : ℕ = length x - 1 in
    let p : ℕ = get_or x n 0 in
    let t1 = need_inv _ _ _ _ e in
    let t2 = need_inv _ _ _ _ t1.1 in
    let fits : p ≤ n = leb-true p n t1.0 in
    let pads : part x (n - p) p ≡ counting p = same_true _ _ t2.0 in
    let front : take (n - p) x ≡ payload = accept_inj _ _ t2.1 in
    let at : n - p + p ≡ n = omega arith in
    let last : n < length x = omega arith in
    let over : length x ≤ suc n = omega arith in
    let one : drop n x ≡ p ∷ [] = drop-cons x n 0 last ∙ ap (λ (l : List ℕ). p ∷ l) (drop_of_length-le x over) in
    let back : drop (n - p) x ≡ counting p ++ (p ∷ [])
    = sym (take-append-drop p (drop (n - p) x)) ∙ ap₂ (λ (a b : List ℕ). a ++ b) pads (drop-drop p (n - p) x ∙ ap (λ (i : ℕ). drop i x) at ∙ one) in
    sym (take-append-drop (n - p) x) ∙ ap₂ (λ (a b : List ℕ). a ++ b) front back

-- the length in the header is the same in what is left of a packet
pub length_front : (l : List ℕ) (n : ℕ) → 12 ≤ length l → 12 ≤ n → body_length (take n l) ≡ body_length l
length_front l n h g =
    let long : 10 ≤ length l = omega arith in
    let size : 10 ≤ length (take n l) = rw (length-take n l) (omega arith) in
    ap unle (sym (behind (take n l) size) ∙ ap (drop 10) (take-take 12 n l g) ∙ behind l long)
  where
    behind : (x : List ℕ) → 10 ≤ length x → drop 10 (take 12 x) ≡ part x 10 2
    behind x k = ap (drop 10) (take-add 10 2 x) ∙ drop_at (take 10 x) (part x 10 2) 10 (length-take-le 10 x k)

-- what the head's tests leave known
pub record Headed (S : Suite) (l : List ℕ) (ty : ℕ) : Type 0 where
  pub long : 10 ≤ length l
  pub first : get_or l 0 0 ≡ 0x06
  pub ty_is : ty ≡ get_or l 1 0 % 64
  pub ty_known : known (get_or l 1 0 % 64) ≡ true
  pub seven : get_or l 1 0 / 128 % 2 ≡ bit S.aes
  pub six : get_or l 1 0 / 64 % 2 ≡ bit S.auth
  pub short : length l ≤ longest_packet S

pub head_inv : (S : Suite) (l : List ℕ) (ty : ℕ) → head_of S l ≡ accept ty → Headed S l ty
unfolding head_of
head_inv S l ty e =
    let t1 = need_inv _ _ _ _ e in
    let t2 = need_inv _ _ _ _ t1.1 in
    let t3 = need_inv _ _ _ _ t2.1 in
    let t4 = need_inv _ _ _ _ t3.1 in
    let t5 = need_inv _ _ _ _ t4.1 in
    let t6 = need_inv _ _ _ _ t5.1 in
    record {
      long = leb-true _ _ t1.0;
      first = eqb-true _ _ t2.0;
      ty_is = sym (accept_inj _ _ t6.1);
      ty_known = t3.0;
      seven = eqb-true _ _ t4.0;
      six = eqb-true _ _ t5.0;
      short = leb-true _ _ t6.0;
    }

-- the first twelve bytes are the header of what they say
pub header_inv : (S : Suite) (l : List ℕ) (ty : ℕ) (payload : List ℕ) → Bytes l → 12 ≤ length l → Headed S l ty
    → take 12 l ≡ header_of S (message_of ty l payload) (body_length l)
unfolding header_of
header_inv S l ty payload hb h d =
    let flags : 128 * bit S.aes + 64 * bit S.auth + ty ≡ get_or l 1 0
    = flags_back S.aes S.auth (get_or l 1 0) ty (hb 1) d.seven d.six d.ty_is in
    let two : take 2 l ≡ 0x06 ∷ (128 * bit S.aes + 64 * bit S.auth + ty) ∷ []
    = take_two l 0 (omega arith) ∙ ap₂ (λ (a b : ℕ). a ∷ b ∷ []) d.first (sym flags) in
    let numbers : take 10 (drop 2 l) ≡ part l 2 4 ++ (part l 6 4 ++ part l 10 2)
    = take-add 4 6 (drop 2 l) ∙ ap (λ (x : List ℕ). part l 2 4 ++ x)
    (ap (take 6) (drop-drop 4 2 l) ∙ take-add 4 2 (drop 6 l) ∙ ap (λ (x : List ℕ). part l 6 4 ++ take 2 x) (drop-drop 4 6 l)) in
    take-add 2 10 l ∙ ap₂ (λ (a b : List ℕ). a ++ b) two
    (numbers ∙ ap₂ (λ (a b : List ℕ). a ++ b) (sym (part_number l 2 4 hb (omega arith)))
    (ap₂ (λ (a b : List ℕ). a ++ b) (sym (part_number l 6 4 hb (omega arith))) (sym (part_number l 10 2 hb (omega arith)))))

-- the trailer that a code was found behind: what it covers, and the whole
pub record Trailed (S : Suite) (code l : List ℕ) (n : ℕ) : Type 0 where
  pub q : ℕ
  pub byte : q ≡ get_or l (coverage S l - 2) 0
  pub sum : n + q + 2 ≡ coverage S l
  pub size : n + q + 2 + S.m ≡ length l
  pub front : take (coverage S l) l ≡ take n l ++ (part l n q ++ (q ∷ 0x07 ∷ []))
  pub back : drop (coverage S l) l ≡ code

pub trailer_inv : (S : Suite) (code l : List ℕ) (n : ℕ) → 1 ≤ n → trailer_of S code l ≡ accept n → Trailed S code l n
unfolding trailer_of
trailer_inv S code l n h e =
    let k : ℕ = coverage S l in
    let q : ℕ = get_or l (k - 2) 0 in
    let t1 = need_inv _ _ _ _ e in
    let t2 = need_inv _ _ _ _ t1.1 in
    let t3 = need_inv _ _ _ _ t2.1 in
    let t4 = need_inv _ _ _ _ t3.1 in
    let long : S.m + 2 ≤ length l = leb-true _ _ t3.0 in
    let seven : get_or l (k - 1) 0 ≡ 0x07 = eqb-true _ _ t4.0 in
    let start : k - 2 - q ≡ n = accept_inj _ _ t4.1 in
    let sum : n + q + 2 ≡ k = omega arith in
    let all : n + q + 2 + S.m ≡ length l = omega arith in
    let split : k ≡ n + (q + 2) = omega arith in
    let at : n + q ≡ k - 2 = omega arith in
    let next : k - 2 + 1 ≡ k - 1 = omega arith in
    let two : take 2 (drop q (drop n l)) ≡ q ∷ 0x07 ∷ []
    = ap (take 2) (drop-drop q n l ∙ ap (λ (i : ℕ). drop i l) at) ∙ take_two l (k - 2) (omega arith)
    ∙ ap (λ (x : ℕ). q ∷ x ∷ []) (ap (λ (i : ℕ). get_or l i 0) next ∙ seven) in
    record {
      q = q;
      byte = refl;
      sum = sum;
      size = all;
      front =
          ap (λ (i : ℕ). take i l) split ∙ take-add n (q + 2) l
          ∙ ap (λ (x : List ℕ). take n l ++ x) (take-add q 2 (drop n l) ∙ ap (λ (x : List ℕ). part l n q ++ x) two);
      back = same_true _ _ t2.0;
    }

-- what stands in a body that a payload was found in
pub record Inside (S : Suite) (b payload : List ℕ) : Type 0 where
  pub iv : List ℕ
  pub p : ℕ
  pub payload_bytes : Bytes payload
  pub iv_size : S.aes ≡ true → length iv ≡ 16
  pub iv_bytes : S.aes ≡ true → Bytes iv
  pub p_fits : S.aes ≡ true → p ≤ 255
  pub whole : S.aes ≡ true → length (plain_of payload p) % 16 ≡ 0
  pub body : b ≡ cond S.aes (iv ++ S.enc iv (plain_of payload p)) payload

module _ (S : Suite) (L : Laws S) where
  pub decrypted_inv : (b payload : List ℕ) → Bytes b → decrypted S b ≡ accept payload → S.aes ≡ true → Inside S b payload
  unfolding decrypted plain_of
  decrypted_inv b payload hb e g =
      let iv : List ℕ = take 16 b in
      let x : List ℕ = S.dec iv (drop 16 b) in
      let p : ℕ = get_or x (length x - 1) 0 in
      let t1 = need_inv _ _ _ _ e in
      let t2 = need_inv _ _ _ _ t1.1 in
      let t3 = need_inv _ _ _ _ t2.1 in
      let long : 16 ≤ length b = leb-true _ _ t1.0 in
      let blocks : (length b - 16) % 16 ≡ 0 = eqb-true _ _ t2.0 in
      let some : length b - 16 ≡ 0 → ⊥ = eqb-false _ _ (not-true _ t3.0) in
      let rest : length (drop 16 b) ≡ length b - 16 = length-drop 16 b in
      let blocks' : length (drop 16 b) % 16 ≡ 0 = ap (λ (i : ℕ). i % 16) rest ∙ blocks in
      let hi : length iv ≡ 16 = length-take-le 16 b long in
      let bi : Bytes iv = bytes_take 16 b hb in
      let size : length x ≡ length (drop 16 b) = L.dec_length iv (drop 16 b) blocks' in
      let full : 1 ≤ length x = positive (length x) (λ z. some (sym rest ∙ sym size ∙ z)) in
      let plain : x ≡ plain_of payload p = unpad_inv x payload full t3.1 in
      let bx : Bytes x = L.dec_bytes iv (drop 16 b) hi bi blocks' (bytes_drop 16 b hb) in
      let back : S.enc iv x ≡ drop 16 b = L.enc_dec iv (drop 16 b) hi bi blocks' (bytes_drop 16 b hb) in
      record {
        iv = iv;
        p = p;
        payload_bytes =
            subst Bytes (take_at payload (counting p ++ (p ∷ [])) (length payload) refl)
            (bytes_take (length payload) (plain_of payload p) (subst Bytes plain bx));
        iv_size = λ _. hi;
        iv_bytes = λ _. bi;
        p_fits = λ _. omega (arith, bx (length x - 1));
        whole = λ _. ap (λ (l : List ℕ). length l % 16) (sym plain) ∙ ap (λ (i : ℕ). i % 16) size ∙ blocks';
        body = sym (take-append-drop 16 b) ∙ ap (λ (l : List ℕ). iv ++ l) (sym back ∙ ap (S.enc iv) plain) ∙ sym (cond_true S.aes _ payload g);
      }

  pub payload_inv : (b payload : List ℕ) → Bytes b → payload_in S b ≡ accept payload → Inside S b payload
  unfolding payload_in
  payload_inv b payload hb e =
      by_cases S.aes
      (λ g. decrypted_inv b payload hb (sym (cond_true S.aes (decrypted S b) (accept b) g) ∙ e) g)
      (λ g. let same : b ≡ payload = accept_inj b payload (sym (cond_false S.aes (decrypted S b) (accept b) g) ∙ e) in
      record {
        iv = [];
        p = 0;
        payload_bytes = subst Bytes same hb;
        iv_size = λ t. absurd (false≢true (sym g ∙ t));
        iv_bytes = λ t. absurd (false≢true (sym g ∙ t));
        p_fits = λ t. omega arith;
        whole = λ t. absurd (false≢true (sym g ∙ t));
        body = same ∙ sym (cond_false S.aes _ payload g);
      })

  -- header and body
  pub body_inv : (l payload : List ℕ) → Bytes l → body_in S l ≡ accept payload
      → (12 ≤ length l) × (body_length l ≡ length l - 12) × Inside S (drop 12 l) payload
  unfolding body_in
  body_inv l payload hb e =
      let t1 = need_inv _ _ _ _ e in
      let t2 = need_inv _ _ _ _ t1.1 in
      (leb-true _ _ t1.0, eqb-true _ _ t2.0, payload_inv (drop 12 l) payload (bytes_drop 12 l hb) t2.1)

  -- the frame of a message, from what was found in its bytes
  framed_inv : (l payload pads : List ℕ) (n ty : ℕ) → Bytes l → Headed S l ty → n ≤ length l → 12 ≤ n → body_length (take n l) ≡ n - 12
      → (i : Inside S (drop 12 (take n l)) payload)
      → framed S (message_of ty l payload) (record { iv = i.iv; p = i.p; pads = pads }) ≡ take n l
  unfolding framed body_of
  framed_inv l payload pads n ty hb d h g e i =
      let long : 12 ≤ length l = omega arith in
      let size : length (drop 12 (take n l)) ≡ n - 12 = length-drop 12 (take n l) ∙ ap (λ (j : ℕ). j - 12) (length-take-le n l h) in
      let told : length (drop 12 (take n l)) ≡ body_length l = size ∙ sym e ∙ length_front l n long g in
      ap (λ (b : List ℕ). header_of S (message_of ty l payload) (length b) ++ b) (sym i.body)
      ∙ ap (λ (j : ℕ). header_of S (message_of ty l payload) j ++ drop 12 (take n l)) told
      ∙ ap (λ (x : List ℕ). x ++ drop 12 (take n l)) (sym (header_inv S l ty payload hb long d) ∙ sym (take-take 12 n l g))
      ∙ take-append-drop 12 (take n l)

  module _ (l : List ℕ) (hb : Bytes l) where
    -- with the trailer, or without one
    legal_inv : (payload pads : List ℕ) (n ty : ℕ) → Headed S l ty → n ≤ length l → 12 ≤ n → body_length (take n l) ≡ n - 12
        → (i : Inside S (drop 12 (take n l)) payload)
        → (S.auth ≡ true → length pads ≤ 255) → (S.auth ≡ true → Bytes pads)
        → Legal S (message_of ty l payload) (record { iv = i.iv; p = i.p; pads = pads })
    unfolding body_of
    legal_inv payload pads n ty d h g e i few small =
        let size : (a : ℕ) → a + 4 ≤ 12 → length (part l a 4) ≡ 4 = λ a k. length-take-le 4 (drop a l) (rw (length-drop a l) (omega arith)) in
        let front : length (take n l) ≡ n = length-take-le n l h in
        let two : length (part (take n l) 10 2) ≡ 2 = length-take-le 2 (drop 10 (take n l)) (rw (length-drop 10 (take n l)) (omega arith)) in
        let body : length (drop 12 (take n l)) ≡ n - 12 = length-drop 12 (take n l) ∙ ap (λ (j : ℕ). j - 12) front in
        record {
          ty_known = ap known d.ty_is ∙ d.ty_known;
          id_fits = four_fit (part l 2 4) (bytes_part l 2 4 hb) (size 2 (omega arith));
          seq_fits = four_fit (part l 6 4) (bytes_part l 6 4 hb) (size 6 (omega arith));
          payload_bytes = i.payload_bytes;
          body_fits = rw (← i.body) (rw body (rw (← e) (two_fit (part (take n l) 10 2) (bytes_part (take n l) 10 2 (bytes_take n l hb)) two)));
          iv_size = i.iv_size;
          iv_bytes = i.iv_bytes;
          p_fits = i.p_fits;
          whole = i.whole;
          pads_few = few;
          pads_bytes = small;
        }

    Built : Message → Type 0
    Built M = (F : Filling) × Legal S M F × (build S M F ≡ l)

    module _ (payload : List ℕ) (n ty : ℕ) (d : Headed S l ty) (least : 12 ≤ n) (told : body_length (take n l) ≡ length (take n l) - 12)
        (i : Inside S (drop 12 (take n l)) payload) where
      -- with a trailer
      auth_inv : S.auth ≡ true → trailer_of S (code_of S l) l ≡ accept n → Built (message_of ty l payload)
      unfolding Built build covered
      auth_inv g e = closed (trailer_inv S (code_of S l) l n (omega arith) e)
        where
          closed : Trailed S (code_of S l) l n → Built (message_of ty l payload)
          closed t =
              let q : ℕ = t.q in
              let byte : q ≡ get_or l (coverage S l - 2) 0 = t.byte in
              let sum : n + q + 2 ≡ coverage S l = t.sum in
              let size : n + q + 2 + S.m ≡ length l = t.size in
              let fits : n ≤ length l = omega arith in
              let body : body_length (take n l) ≡ n - 12 = told ∙ ap (λ (j : ℕ). j - 12) (length-take-le n l fits) in
              let count : length (part l n q) ≡ q = length-take-le q (drop n l) (rw (length-drop n l) (omega arith)) in
              let few : length (part l n q) ≤ 255 = omega (arith, hb (coverage S l - 2)) in
              let F : Filling = record { iv = i.iv; p = i.p; pads = part l n q } in (
                F,
                legal_inv payload (part l n q) n ty d fits least body i (λ _. few) (λ _. bytes_part l n q hb),
                cond_true S.auth (covered S (message_of ty l payload) F ++ S.mac (covered S (message_of ty l payload) F))
                    (framed S (message_of ty l payload) F) g
                    ∙ ap (λ (x : List ℕ). x ++ S.mac x)
                    (ap₂ (λ (x : List ℕ) (j : ℕ). x ++ (part l n q ++ (j ∷ 0x07 ∷ [])))
                    (framed_inv l payload (part l n q) n ty hb d fits least body i) count ∙ sym t.front)
                    ∙ ap (λ (x : List ℕ). take (coverage S l) l ++ x) (sym t.back) ∙ take-append-drop (coverage S l) l,
              )

      -- with none
      bare_inv : S.auth ≡ false → length l ≡ n → Built (message_of ty l payload)
      unfolding Built build
      bare_inv g whole =
          let fits : n ≤ length l = omega arith in
          let body : body_length (take n l) ≡ n - 12 = told ∙ ap (λ (j : ℕ). j - 12) (length-take-le n l fits) in
          let F : Filling = record { iv = i.iv; p = i.p; pads = [] } in (
            F,
            legal_inv payload [] n ty d fits least body i (λ z. absurd (false≢true (sym g ∙ z))) (λ z. absurd (false≢true (sym g ∙ z))),
            cond_false S.auth (covered S (message_of ty l payload) F ++ S.mac (covered S (message_of ty l payload) F))
                (framed S (message_of ty l payload) F) g
                ∙ framed_inv l payload [] n ty hb d fits least body i ∙ ap (λ (j : ℕ). take j l) (sym whole) ∙ take-length l,
          )

    found_inv : (payload : List ℕ) (n ty : ℕ) → Headed S l ty → before_trailer S (code_of S l) l ≡ accept n → body_in S (take n l) ≡ accept payload
        → Built (message_of ty l payload)
    unfolding before_trailer
    found_inv payload n ty d e f =
        let found = body_inv (take n l) payload (bytes_take n l hb) f in
        let least : 12 ≤ n = omega (arith, length-take n l, found.0) in
        by_cases S.auth
        (λ g. auth_inv payload n ty d least found.1 found.2 g (sym (cond_true S.auth (trailer_of S (code_of S l) l) (accept (length l)) g) ∙ e))
        (λ g. bare_inv payload n ty d least found.1 found.2 g
        (accept_inj _ _ (sym (cond_false S.auth (trailer_of S (code_of S l) l) (accept (length l)) g) ∙ e)))

    pub sound : (M : Message) → read_of S l ≡ accept M → (F : Filling) × Legal S M F × (build S M F ≡ l)
    unfolding read_of read_with rest_of payload_behind Built
    sound M e =
        let h = then_inv (head_of S l) (rest_of S (code_of S l) l) M e in
        let b = then_inv (payload_behind S (code_of S l) l) _ M h.2 in
        let t = then_inv (before_trailer S (code_of S l) l) _ b.0 b.1 in
        subst Built (accept_inj _ _ b.2) (found_inv b.0 t.0 h.0 (head_inv S l h.0 h.1) t.1 t.2)
