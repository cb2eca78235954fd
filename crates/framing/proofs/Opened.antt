-- What an accepted packet holds afterwards, and that the payload call then hands out the payload that was found.
use Prim.Native.Nat.{ℕ, ◌+◌, ◌-◌, ◌≤◌}
use native.Mathlib.Omega.{arith}
use mathlib.Core.Bool.{Bool, true, false}
use mathlib.Core.List.{List, [], ◌∷◌, ◌++◌, append_assoc}
use mathlib.Core.Logic.{◌↔◌, inl, inr, ⊎_elim}
use mathlib.Core.Path.{◌≡◌, refl, sym, ◌∙◌, ap, ap₂, subst}
use lib.ListN.{length, take, drop, length-append, length-drop}
use lib.Seq.{take_at, drop_at, length-take-le}
use borrow.Author.Tests.{leb-true, leb-false, le-leb, lt-leb}
use Rattle.refusal.specs.Order.{Res}
use Rattle.octets.specs.Place.{part, pasted}
use Rattle.framing.specs.Suite.{Suite, Laws}
use Rattle.framing.specs.Packet.{Message, Filling, Legal, counting, plain_of, body_of, header_of, trailer, build}
use Rattle.framing.specs.Read.{body_length, opened, left_by, left_of}
use Rattle.framing.specs.Outer.{left_datagram}
use Rattle.framing.specs.Frames.{FrameOf, DatagramOf}
use Rattle.framing.specs.Payload.{payload_start, payload_fits, payload_of, PassesOrNone}
use Rattle.octets.proofs.Number.{unle-le}
use Rattle.octets.proofs.Order.{by_cases, cond_true, cond_false}
use Rattle.framing.proofs.Complete.{build_whole, bytes_plain}
use Rattle.framing.proofs.Exactly.{frame_read, datagram_read}

-- bytes put in the place of as many
pub pasted_mid : (a x c y : List ℕ) (n : ℕ) → length a ≡ n → length y ≡ length x → pasted (a ++ (x ++ c)) n y ≡ a ++ (y ++ c)
unfolding pasted
pasted_mid a x c y n ha hy =
    let size : length (a ++ x) ≡ n + length y = length-append a x ∙ ap₂ (λ (i j : ℕ). i + j) ha (sym hy) in
    ap₂ (λ (f r : List ℕ). f ++ (y ++ r)) (take_at a (x ++ c) n ha)
    (ap (drop (n + length y)) (sym (append_assoc a x c)) ∙ drop_at (a ++ x) c (n + length y) size)

-- a part that stands between two lists
pub part_mid : (a x c : List ℕ) (n k : ℕ) → length a ≡ n → length x ≡ k → part (a ++ (x ++ c)) n k ≡ x
part_mid a x c n k ha hx = ap (take k) (drop_at a (x ++ c) n ha) ∙ take_at x c k hx

-- a payload that lies at its place is handed out
pub payload_of_between : (a x c : List ℕ) (b : Bool) → length a ≡ payload_start b → payload_of (a ++ (x ++ c)) b (length x) ≡ x
unfolding payload_of
payload_of_between a x c b h =
    let size : length (a ++ (x ++ c)) ≡ length a + (length x + length c) = length-append a (x ++ c) ∙ ap (λ (n : ℕ). length a + n) (length-append x c) in
    let fits : payload_start b + length x ≤ length (a ++ (x ++ c)) = omega arith in
    cond_true _ _ _ (le-leb _ _ fits) ∙ part_mid a x c (payload_start b) (length x) h refl

-- the part handed out is empty exactly when the length is 0 or the part would pass the packet's end
pub payload_empty : (packet : List ℕ) (encrypted : Bool) (n : ℕ) → (payload_of packet encrypted n ≡ []) ↔ PassesOrNone packet encrypted n
unfolding payload_of
payload_empty packet encrypted n = (
  λ e.
      let a : ℕ = payload_start encrypted in
      by_cases (payload_fits packet encrypted n)
      (λ f. let fits : a + n ≤ length packet = leb-true _ _ f in
      let rest : n ≤ length (drop a packet) = omega (arith, length-drop a packet) in
      inl (sym (length-take-le n (drop a packet) rest) ∙ ap length (sym (cond_true _ _ _ f) ∙ e)))
      (λ f. inr (leb-false _ _ f)),
  ⊎_elim
      (λ z. by_cases (payload_fits packet encrypted n)
      (λ f. cond_true _ _ _ f ∙ ap (part packet (payload_start encrypted)) z) (λ f. cond_false _ _ _ f))
      (λ h. cond_false _ _ _ (lt-leb _ _ h)),
)

length_header : (S : Suite) (M : Message) (n : ℕ) → length (header_of S M n) ≡ 12
unfolding header_of
length_header S M n = refl

length_told : (S : Suite) (M : Message) (n : ℕ) (t : List ℕ) → n ≤ 65535 → body_length (header_of S M n ++ t) ≡ n
unfolding header_of
length_told S M n t h = unle-le 2 n (omega arith)

module _ (S : Suite) (L : Laws S) (M : Message) (F : Filling) (ok : Legal S M F) where
  -- with AES the bytes after the IV up to the trailer hold payload, pad and p, and no other byte changes
  pub opened_aes : S.aes ≡ true → opened S (build S M F) ≡ (header_of S M (length (body_of S M F)) ++ F.iv) ++ (plain_of M.payload F.p ++ trailer S M F)
  unfolding opened body_of
  opened_aes e =
      let x : List ℕ = plain_of M.payload F.p in
      let E : List ℕ = S.enc F.iv x in
      let l : List ℕ = build S M F in
      let b : List ℕ = body_of S M F in
      let t : List ℕ = trailer S M F in
      let body : b ≡ F.iv ++ E = cond_true S.aes (F.iv ++ S.enc F.iv x) M.payload e in
      let whole : l ≡ header_of S M (length b) ++ (b ++ t) = build_whole S M F in
      let split : l ≡ header_of S M (length b) ++ (F.iv ++ (E ++ t))
      = whole ∙ ap (λ (y : List ℕ). header_of S M (length b) ++ y) (ap (λ (y : List ℕ). y ++ t) body ∙ append_assoc F.iv E t) in
      let split' : l ≡ (header_of S M (length b) ++ F.iv) ++ (E ++ t) = split ∙ sym (append_assoc (header_of S M (length b)) F.iv (E ++ t)) in
      let hi : length F.iv ≡ 16 = ok.iv_size e in
      let sizeE : length E ≡ length x = L.enc_length F.iv x (ok.whole e) in
      let size : length b ≡ 16 + length x = ap length body ∙ length-append F.iv E ∙ ap₂ (λ (i j : ℕ). i + j) hi sizeE in
      let told : body_length l - 16 ≡ length E
      = ap (λ (y : List ℕ). body_length y - 16) whole ∙ ap (λ (i : ℕ). i - 16) (length_told S M (length b) (b ++ t) ok.body_fits) ∙ omega arith in
      let front : length (header_of S M (length b) ++ F.iv) ≡ 28
      = length-append (header_of S M (length b)) F.iv ∙ ap₂ (λ (i j : ℕ). i + j) (length_header S M (length b)) hi in
      let iv : part l 12 16 ≡ F.iv
      = ap (λ (y : List ℕ). part y 12 16) split ∙ part_mid (header_of S M (length b)) F.iv (E ++ t) 12 16 (length_header S M (length b)) hi in
      let crypt : part l 28 (body_length l - 16) ≡ E
      = ap₂ (λ (y : List ℕ) (k : ℕ). part y 28 k) split' told ∙ part_mid (header_of S M (length b) ++ F.iv) E t 28 (length E) front refl in
      let plain : S.dec (part l 12 16) (part l 28 (body_length l - 16)) ≡ x
      = ap₂ S.dec iv crypt
      ∙ L.dec_enc F.iv x hi (ok.iv_bytes e) (ok.whole e) (bytes_plain M.payload F.p ok.payload_bytes (ok.p_fits e)) in
      cond_true S.aes (pasted l 28 (S.dec (part l 12 16) (part l 28 (body_length l - 16)))) l e
      ∙ ap₂ (λ (y z : List ℕ). pasted y 28 z) split' plain
      ∙ pasted_mid (header_of S M (length b) ++ F.iv) E t x 28 front (sym sizeE)

  -- without AES nothing changes
  pub opened-plain : S.aes ≡ false → opened S (build S M F) ≡ build S M F
  unfolding opened
  opened-plain e = cond_false S.aes _ (build S M F) e

  pub payload_opened : payload_of (opened S (build S M F)) S.aes (length M.payload) ≡ M.payload
  unfolding plain_of body_of
  payload_opened =
      let h : List ℕ = header_of S M (length (body_of S M F)) in
      let t : List ℕ = trailer S M F in
      let pad : List ℕ = counting F.p ++ (F.p ∷ []) in
      let n : ℕ = length M.payload in
      by_cases S.aes
      (λ e.
      ap (λ (x : List ℕ). payload_of x S.aes n) (opened_aes e ∙ ap (λ (x : List ℕ). (h ++ F.iv) ++ x) (append_assoc M.payload pad t))
      ∙ payload_of_between (h ++ F.iv) M.payload (pad ++ t) S.aes
      (length-append h F.iv ∙ ap₂ (λ (i j : ℕ). i + j) (length_header S M (length (body_of S M F))) (ok.iv_size e) ∙ sym (ap payload_start e)))
      (λ e.
      ap (λ (x : List ℕ). payload_of x S.aes n)
      (opened-plain e ∙ build_whole S M F
      ∙ ap (λ (x : List ℕ). h ++ (x ++ t)) (cond_false S.aes (F.iv ++ S.enc F.iv (plain_of M.payload F.p)) M.payload e))
      ∙ payload_of_between h M.payload t S.aes (length_header S M (length (body_of S M F)) ∙ sym (ap payload_start e)))

-- after reading the payload call, told whether the suite encrypts and how many bytes, hands out the payload that was carried
module _ (S : Suite) (L : Laws S) (M : Message) where
  frame_opened : (l : List ℕ) → FrameOf S M l → payload_of (opened S l) S.aes (length M.payload) ≡ M.payload
  frame_opened l f =
      ap (λ (x : List ℕ). payload_of (opened S x) S.aes (length M.payload)) (sym f.bytes) ∙ payload_opened S L M f.filling f.legal

  pub frame_payload : (l : List ℕ) → FrameOf S M l → payload_of (left_of S l) S.aes (length M.payload) ≡ M.payload
  unfolding left_of
  frame_payload l f =
      ap (λ (r : Res Message). payload_of (left_by r l (opened S l)) S.aes (length M.payload)) (frame_read S L M l f) ∙ frame_opened l f

  -- of a datagram the packet is what stands behind the first four bytes
  pub datagram_payload : (d : List ℕ) → DatagramOf S M d → payload_of (drop 4 (left_datagram S d)) S.aes (length M.payload) ≡ M.payload
  unfolding left_datagram
  datagram_payload d f =
      let behind : drop 4 d ≡ f.packet = ap (drop 4) (sym f.bytes) in
      let four : length (take 4 d) ≡ 4 = ap (λ (x : List ℕ). length (take 4 x)) (sym f.bytes) in
      ap (λ (r : Res Message). payload_of (drop 4 (left_by r d (take 4 d ++ opened S (drop 4 d)))) S.aes (length M.payload)) (datagram_read S L M d f)
      ∙ ap (λ (x : List ℕ). payload_of x S.aes (length M.payload)) (drop_at (take 4 d) (opened S (drop 4 d)) 4 four)
      ∙ frame_opened (drop 4 d) (subst (FrameOf S M) (sym behind) f.frame)
