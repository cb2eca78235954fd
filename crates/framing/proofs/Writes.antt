-- The writer's steps put together: after each the output begins with what was written so far.
use Prim.Native.Nat.{ℕ, ◌+◌, ◌-◌, ◌≤◌}
use native.Mathlib.Omega.{arith}
use mathlib.Core.Bool.{Bool, true, false}
use mathlib.Core.List.{List, [], ◌∷◌, ◌++◌, append_assoc, append-nil}
use mathlib.Core.Path.{◌≡◌, refl, sym, ◌∙◌, ap, ap₂}
use lib.ListN.{length, take, drop, replicate, length-append, length-replicate, length-drop, drop_of_length-le}
use lib.Seq.{take_at, length-take-le, drop-drop}
use borrow.Author.Tests.{leb-true}
use Rattle.refusal.specs.Order.{Res, refuse, accept}
use Rattle.refusal.proofs.Order.{need_inv, then_refuse, then_accept, accept_inj}
use Rattle.octets.specs.Place.{pasted, begun}
use Rattle.octets.specs.Promise.{PutPromise}
use Rattle.octets.proofs.Place.{put_done, begun_first, begun_put, begun_take, begun_drop, length-pasted}
use Rattle.framing.specs.Suite.{Suite, Lengths}
use Rattle.framing.specs.Packet.{Message, Filling, plain_of, body_of, header_of, framed, covered}
use Rattle.framing.specs.Write.{least_p, least_q, body_size, trailer_size, packet_size, longest_payload, room_of, our_filling, our_body, our_pads, ours}
use Rattle.framing.specs.Write.{write_after, wrote_by}
use Rattle.framing.specs.Outer.{outer}
use Rattle.framing.specs.Told.{counted}
use Rattle.octets.proofs.Order.{cond_true, cond_false}
use Rattle.framing.proofs.Body.{counted_no, counted_yes}
use Rattle.framing.proofs.Complete.{build_auth, build_bare, length-framed}
use Rattle.framing.proofs.RoundTrip.{size_body, size_ours}
use Rattle.octets.proofs.Place.{to_end}
use Rattle.framing.proofs.Fills.{pasted_next}

-- sizes
pub longest_small : (b : Bool) → longest_payload b ≤ 65535
longest_small true = omega arith
longest_small false = omega arith

pub body_fits : (b : Bool) (n : ℕ) → n ≤ longest_payload b → body_size b n ≤ 65535
body_fits true n h = omega arith
body_fits false n h = h

pub packet_body : (S : Suite) (n : ℕ) → 12 + body_size S.aes n ≤ packet_size S n
packet_body S n = omega arith

pub packet_code : (S : Suite) (n : ℕ) → S.auth ≡ true → 12 + body_size S.aes n + least_q (12 + body_size S.aes n) + 2 + S.m ≡ packet_size S n
packet_code S n e =
    let k : ℕ = 12 + body_size S.aes n in
    let sum : k + least_q k + 2 + S.m ≡ k + (least_q k + 2 + S.m) = omega arith in
    sum ∙ ap (λ (b : Bool). k + trailer_size b S.m k) (sym e)

-- the body
module _ (S : Suite) (d x payload iv : List ℕ) where
  pub body_bare : (r : Bool) → S.aes ≡ false → 12 + length payload ≤ length d → PutPromise d 12 payload r x → x ≡ pasted d 12 (our_body S payload iv)
  unfolding our_body
  body_bare r e h p = put_done d 12 payload r x p h ∙ ap (pasted d 12) (sym (cond_false S.aes _ payload e))

  pub body_aes : S.aes ≡ true → x ≡ pasted d 12 (iv ++ S.enc iv (plain_of payload (least_p (length payload)))) → x ≡ pasted d 12 (our_body S payload iv)
  unfolding our_body
  body_aes e f = f ∙ ap (pasted d 12) (sym (cond_true S.aes _ payload e))

-- the trailer
take_pasted_end : (d s : List ℕ) (a n : ℕ) → a + length s ≡ n → a ≤ length d → take n (pasted d a s) ≡ take a d ++ s
unfolding pasted
take_pasted_end d s a n e h =
    let size : length (take a d ++ s) ≡ n = length-append (take a d) s ∙ ap (λ (k : ℕ). k + length s) (length-take-le a d h) ∙ e in
    ap (take n) (sym (append_assoc (take a d) s (drop (a + length s) d))) ∙ take_at (take a d ++ s) (drop (a + length s) d) n size

-- pad, count and next header, then the first m bytes of a code whose first m bytes are the code of what stands before
module _ (S : Suite) (d d1 d2 code : List ℕ) (k q m : ℕ) (r : Bool) (hq : q ≡ least_q k) (hm : m ≡ S.m) (room : k + q + 2 + m ≤ length d)
    (long : m ≤ length code)
    (e1 : d1 ≡ pasted d k (replicate q 0xFF ++ (q ∷ 0x07 ∷ []))) (ec : take S.m code ≡ S.mac (take (k + q + 2) d1))
    (e2 : PutPromise d1 (k + q + 2) (take m code) r d2) where
  pub code_written : d2 ≡ pasted d k (our_pads k ++ S.mac (take k d ++ our_pads k))
  code_written =
      let P : List ℕ = our_pads k in
      let pads : replicate q 0xFF ++ (q ∷ 0x07 ∷ []) ≡ P = ap (λ (j : ℕ). replicate j 0xFF ++ (j ∷ 0x07 ∷ [])) hq in
      let size : length P ≡ q + 2
      = length-append (replicate (least_q k) 0xFF) (least_q k ∷ 0x07 ∷ []) ∙ ap (λ (j : ℕ). j + 2) (length-replicate {A = ℕ} (least_q k) 0xFF ∙ sym hq) in
      let first : d1 ≡ pasted d k P = e1 ∙ ap (pasted d k) pads in
      let n : k + length P ≡ k + q + 2 = omega arith in
      let size1 : length d1 ≡ length d = ap length first ∙ length-pasted d k P (omega arith) in
      let codes : take m code ≡ S.mac (take k d ++ P)
      = ap (λ (j : ℕ). take j code) hm ∙ ec ∙ ap S.mac (ap (take (k + q + 2)) first ∙ take_pasted_end d P k (k + q + 2) n (omega arith)) in
      let sizec : length (take m code) ≡ m = length-take-le m code long in
      put_done d1 (k + q + 2) (take m code) r d2 e2 (omega arith)
      ∙ ap₂ (λ (x y : List ℕ). pasted x (k + q + 2) y) first codes
      ∙ pasted_next d P _ k (k + q + 2) n (omega arith)

-- the whole packet
module _ (S : Suite) (L : Lengths S) (M : Message) (iv : List ℕ) (hi : length iv ≡ 16) (d d1 d2 h : List ℕ) (n : ℕ) (r : Bool)
    (hn : n ≡ body_size S.aes (length M.payload)) (eh : h ≡ header_of S M n) (e1 : PutPromise d 0 h r d1) (fits : 12 ≤ length d)
    (e2 : d2 ≡ pasted d1 12 (our_body S M.payload iv)) where
  F : Filling
  F = our_filling S iv M.payload

  body_is : body_of S M F ≡ our_body S M.payload iv
  unfolding body_of our_body F
  body_is = refl

  size : length (body_of S M F) ≡ n
  unfolding F
  size = size_body S M iv (λ _. hi) L.enc_length ∙ sym hn

  length_h : length h ≡ 12
  unfolding header_of
  length_h = ap length eh

  frame_written : d2 ≡ begun (framed S M F) d
  unfolding framed
  frame_written =
      let first : d1 ≡ pasted d 0 h = put_done d 0 h r d1 e1 (omega (arith, length_h)) in
      let at : 0 + length h ≡ 12 = omega (arith, length_h) in
      e2 ∙ ap₂ (λ (x y : List ℕ). pasted x 12 y) first (sym body_is)
      ∙ pasted_next d h (body_of S M F) 0 12 at (omega arith)
      ∙ begun_first (h ++ body_of S M F) d
      ∙ ap (λ (x : List ℕ). begun (x ++ body_of S M F) d) (eh ∙ ap (header_of S M) (sym size))

  pub packet_bare : S.auth ≡ false → d2 ≡ begun (ours S M iv) d
  unfolding ours F
  packet_bare e = frame_written ∙ ap (λ (x : List ℕ). begun x d) (sym (build_bare S M F e))

  pub packet_auth : (d3 : List ℕ) → S.auth ≡ true → d3 ≡ pasted d2 (12 + n) (our_pads (12 + n) ++ S.mac (take (12 + n) d2 ++ our_pads (12 + n)))
      → d3 ≡ begun (ours S M iv) d
  unfolding ours covered F
  packet_auth d3 e f =
      let k : length (framed S M F) ≡ 12 + n = length-framed S M F ∙ ap (λ (j : ℕ). 12 + j) size in
      let P : List ℕ = our_pads (12 + n) in
      let pads : F.pads ++ (length F.pads ∷ 0x07 ∷ []) ≡ P
      = ap (λ (j : ℕ). replicate (least_q (12 + j)) 0xFF ++ (length {A = ℕ} (replicate (least_q (12 + j)) 0xFF) ∷ 0x07 ∷ [])) (sym hn)
      ∙ ap (λ (j : ℕ). replicate (least_q (12 + n)) 0xFF ++ (j ∷ 0x07 ∷ [])) (length-replicate {A = ℕ} (least_q (12 + n)) 0xFF) in
      let front : take (12 + n) d2 ≡ framed S M F = ap (take (12 + n)) frame_written ∙ begun_take (framed S M F) d (12 + n) k in
      let cover : framed S M F ++ P ≡ covered S M F = ap (λ (x : List ℕ). framed S M F ++ x) (sym pads) in
      f ∙ ap₂ (λ (x y : List ℕ). pasted x (12 + n) (P ++ S.mac (y ++ P))) frame_written front
      ∙ begun_put (framed S M F) d (P ++ S.mac (framed S M F ++ P)) (12 + n) k
      ∙ ap (λ (x : List ℕ). begun x d)
      (sym (append_assoc (framed S M F) P (S.mac (framed S M F ++ P))) ∙ ap (λ (x : List ℕ). x ++ S.mac x) cover ∙ sym (build_auth S M F e))

-- the answers
pub room_inv : (S : Suite) (before n room k : ℕ) → room_of S before n room ≡ accept k
    → (n ≤ longest_payload S.aes) × (before + packet_size S n ≤ room) × (k ≡ before + packet_size S n)
unfolding room_of
room_inv S before n room k e =
    let t1 = need_inv _ _ _ _ e in
    let t2 = need_inv _ _ _ _ t1.1 in
    let t3 = need_inv _ _ _ _ t2.1 in
    (leb-true _ _ t2.0, leb-true _ _ t3.0, sym (accept_inj _ _ t3.1))

module _ (S : Suite) (M : Message) (iv before d : List ℕ) (t : Res ℕ) (e : t ≡ room_of S (length before) (length M.payload) (length d)) where
  abbrev R : Res (List ℕ)
  R = write_after before S M iv (length d)

  -- refused: the number, and the output as found
  pub write_no : (n v : ℕ) → t ≡ refuse n v
      → (refuse n v ≡ counted (write_after before S M iv (length d))) × (d ≡ wrote_by (write_after before S M iv (length d)) d)
  unfolding write_after
  write_no n v f =
      let none : R ≡ refuse n v = then_refuse (room_of S (length before) (length M.payload) (length d)) _ n v (sym e ∙ f) in
      (counted_no R n v none, sym (ap (λ (r : Res (List ℕ)). wrote_by r d) none))

  -- written: the length, and the packet at the output's start
  pub write_yes : Lengths S → length iv ≡ 16 → (n : ℕ) (x : List ℕ) → t ≡ accept n → x ≡ begun (before ++ ours S M iv) d
      → (accept n ≡ counted (write_after before S M iv (length d))) × (x ≡ wrote_by (write_after before S M iv (length d)) d)
  unfolding write_after
  write_yes L hi n x f b =
      let all : R ≡ accept (before ++ ours S M iv) = then_accept (room_of S (length before) (length M.payload) (length d)) _ n (sym e ∙ f) in
      let size : length (before ++ ours S M iv) ≡ n
      = length-append before (ours S M iv) ∙ ap (λ (k : ℕ). length before + k) (size_ours S M iv (λ _. hi) L)
      ∙ sym (room_inv S (length before) (length M.payload) (length d) n (sym e ∙ f)).2 in
      (counted_yes R (before ++ ours S M iv) n all size, b ∙ sym (ap (λ (r : Res (List ℕ)). wrote_by r d) all))

-- a header does not depend on the payload but by the body's length
pub header_same : (S : Suite) (ty id seq : ℕ) (payload : List ℕ) (n : ℕ)
    → header_of S (record { ty = ty; id = id; seq = seq; payload = [] }) n ≡ header_of S (record { ty = ty; id = id; seq = seq; payload = payload }) n
unfolding header_of
header_same S ty id seq payload n = refl

-- a packet written behind the four outer bytes
pub datagram_written : (d d1 y P : List ℕ) (r : Bool) → 4 ≤ length d → PutPromise d 0 outer r d1 → y ≡ begun P (take (length d1 - 4) (drop 4 d1))
    → take 4 d1 ++ (y ++ drop (length d1 - 4) (drop 4 d1)) ≡ begun (outer ++ P) d
unfolding begun
datagram_written d d1 y P r h p e =
    let first : d1 ≡ begun outer d = put_done d 0 outer r d1 p h ∙ begun_first outer d in
    let front : take 4 d1 ≡ outer = ap (take 4) first ∙ begun_take outer d 4 refl in
    let rest : drop 4 d1 ≡ drop 4 d = ap (drop 4) first ∙ begun_drop outer d 4 refl in
    let over : length (drop 4 d1) ≤ length d1 - 4 = omega (arith, length-drop 4 d1) in
    ap₂ (λ (a b : List ℕ). a ++ b) front
    (ap₂ (λ (a b : List ℕ). a ++ b) (e ∙ ap (begun P) (to_end (length d1) 4 d1 (omega arith) ∙ rest)) (drop_of_length-le (drop 4 d1) over)
    ∙ append-nil (begun P (drop 4 d))
    ∙ ap (λ (x : List ℕ). P ++ x) (drop-drop (length P) 4 d))
    ∙ sym (append_assoc outer P (drop (4 + length P) d)) ∙ ap (λ (n : ℕ). (outer ++ P) ++ drop n d) (sym (length-append outer P))
