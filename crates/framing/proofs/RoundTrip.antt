-- What our writer makes is a frame of the rules, with the least pads.
use Prim.Native.Nat.{ℕ, ◌+◌, ◌%◌, ◌≤◌}
use native.Mathlib.Omega.{arith}
use mathlib.Core.Bool.{Bool, true}
use mathlib.Core.List.{List, [], ◌++◌}
use mathlib.Core.Path.{◌≡◌, refl, sym, ◌∙◌, ap, ap₂, subst}
use lib.ListN.{length, length-append, length-replicate}
use lib.Dec.{leb}
use borrow.Author.Tests.{leb-true}
use Rattle.refusal.specs.Order.{accept}
use Rattle.refusal.proofs.Order.{need_inv, accept_inj, then_inv}
use Rattle.framing.specs.Suite.{Suite, KeepsLength, Lengths}
use Rattle.framing.specs.Packet.{Message, Filling, Legal, plain_of, body_of, framed, covered}
use Rattle.framing.specs.Write.{least_p, least_q, body_size, trailer_size, packet_size, our_filling, ours, longest_payload, room_of, write_after}
use Rattle.framing.specs.Outer.{outer, write_of, write_datagram_of}
use Rattle.framing.specs.Frames.{FrameOf, DatagramOf, Given}
use Rattle.octets.proofs.Bytes.{bytes_replicate}
use Rattle.octets.proofs.Order.{by_cases, cond_true, cond_false}
use Rattle.framing.proofs.Complete.{length-plain, length-framed, build_auth, build_bare}

-- p serves, and no lesser one does
pub p_serves : (n : ℕ) → (n + least_p n + 1) % 16 ≡ 0
p_serves n = omega arith

pub p_least : (n p : ℕ) → (n + p + 1) % 16 ≡ 0 → least_p n ≤ p
p_least n p h = omega arith

-- the same of q
pub q_serves : (n : ℕ) → (n + least_q n + 2) % 4 ≡ 0
q_serves n = omega arith

pub q_least : (n q : ℕ) → (n + q + 2) % 4 ≡ 0 → least_q n ≤ q
q_least n q h = omega arith

module _ (S : Suite) (M : Message) (iv : List ℕ) (hi : S.aes ≡ true → length iv ≡ 16) where
  abbrev n : ℕ
  n = length M.payload

  abbrev F : Filling
  F = our_filling S iv M.payload

  whole : length (plain_of M.payload (least_p n)) % 16 ≡ 0
  whole = ap (λ (k : ℕ). k % 16) (length-plain M.payload (least_p n)) ∙ p_serves n

  -- the sizes are those of what is written
  pub size_body : KeepsLength S → length (body_of S M (our_filling S iv M.payload)) ≡ body_size S.aes (length M.payload)
  unfolding body_of
  size_body K =
      let x : List ℕ = plain_of M.payload (least_p n) in
      let sum : 16 + (n + least_p n + 1) ≡ 16 + n + least_p n + 1 = omega arith in
      by_cases S.aes
      (λ e. ap length (cond_true S.aes (iv ++ S.enc iv x) M.payload e) ∙ length-append iv (S.enc iv x)
      ∙ ap₂ (λ (i j : ℕ). i + j) (hi e) (K e iv x whole ∙ length-plain M.payload (least_p n)) ∙ sum ∙ sym (ap (λ (b : Bool). body_size b n) e))
      (λ e. ap length (cond_false S.aes (iv ++ S.enc iv x) M.payload e) ∙ sym (ap (λ (b : Bool). body_size b n) e))

  pub size_ours : Lengths S → length (ours S M iv) ≡ packet_size S (length M.payload)
  unfolding ours covered
  size_ours L =
      let k : ℕ = 12 + body_size S.aes n in
      let frame : length (framed S M F) ≡ k = length-framed S M F ∙ ap (λ (i : ℕ). 12 + i) (size_body L.enc_length) in
      let count : length F.pads ≡ least_q k = length-replicate {A = ℕ} (least_q k) 0xFF in
      by_cases S.auth
      (λ e.
      let cover : length (covered S M F) ≡ k + (least_q k + 2) = simp (length-append, length-append) (omega arith) in
      let sum : k + (least_q k + 2) + S.m ≡ k + (least_q k + 2 + S.m) = omega arith in
      ap length (build_auth S M F e) ∙ length-append (covered S M F) (S.mac (covered S M F))
      ∙ ap₂ (λ (i j : ℕ). i + j) cover (L.mac_length e (covered S M F))
      ∙ sum ∙ ap (λ (b : Bool). k + trailer_size b S.m k) (sym e))
      (λ e. ap length (build_bare S M F e) ∙ frame ∙ (let none : k ≡ k + 0 = omega arith in none) ∙ ap (λ (b : Bool). k + trailer_size b S.m k) (sym e))

  -- what is written is a frame of the rules where the payload is not too long
  pub ours_legal : KeepsLength S → Given M iv → length M.payload ≤ 65535 → (S.aes ≡ true → length M.payload ≤ 65503)
      → Legal S M (our_filling S iv M.payload)
  ours_legal K g h a =
      let k : ℕ = 12 + body_size S.aes n in
      let count : length F.pads ≡ least_q k = length-replicate {A = ℕ} (least_q k) 0xFF in
      let few : length F.pads ≤ 255 = omega arith in
      let fits : body_size S.aes n ≤ 65535 = by_cases S.aes
      (λ e. let short : n ≤ 65503 = a e in let sum : 16 + n + least_p n + 1 ≤ 65535 = omega arith in subst (λ (b : Bool). body_size b n ≤ 65535) (sym e) sum)
      (λ e. subst (λ (b : Bool). body_size b n ≤ 65535) (sym e) h) in
      record {
        ty_known = g.ty_known;
        id_fits = g.id_fits;
        seq_fits = g.seq_fits;
        payload_bytes = g.payload_bytes;
        body_fits = subst (λ (i : ℕ). i ≤ 65535) (sym (size_body K)) fits;
        iv_size = hi;
        iv_bytes = λ _. g.iv_bytes;
        p_fits = λ _. omega arith;
        whole = λ _. whole;
        pads_few = λ _. few;
        pads_bytes = λ _. bytes_replicate (least_q k) 0xFF (omega arith);
      }

  -- where the writer does not refuse, what stands behind `before` is that frame
  written_inv : (before : List ℕ) (room : ℕ) (d : List ℕ) → write_after before S M iv room ≡ accept d
      → (length M.payload ≤ 65535) × (S.aes ≡ true → length M.payload ≤ 65503) × (d ≡ before ++ ours S M iv)
  unfolding write_after room_of
  written_inv before room d e =
      let t = then_inv (room_of S (length before) n room) _ d e in
      let t1 = need_inv _ _ _ _ t.1 in
      let t2 = need_inv _ _ _ _ t1.1 in
      (leb-true _ _ t1.0, λ a. leb-true _ _ (sym (ap (λ (b : Bool). leb n (longest_payload b)) a) ∙ t2.0), sym (accept_inj _ _ t.2))

module _ (S : Suite) (K : KeepsLength S) (M : Message) (iv : List ℕ) (g : Given M iv) (room : ℕ) where
  ours_frame : length M.payload ≤ 65535 → (S.aes ≡ true → length M.payload ≤ 65503) → FrameOf S M (ours S M iv)
  unfolding ours
  ours_frame h a = record { filling = our_filling S iv M.payload; legal = ours_legal S M iv (λ _. g.iv_size) K g h a; bytes = refl }

  -- a packet that was written is a frame of what it was made from
  pub written_frame : (l : List ℕ) → write_of S M iv room ≡ accept l → FrameOf S M l
  unfolding write_of
  written_frame l e =
      let w = written_inv S M iv (λ _. g.iv_size) [] room l e in
      subst (FrameOf S M) (sym w.2) (ours_frame w.0 w.1)

  -- and so is a datagram
  pub written_datagram : (d : List ℕ) → write_datagram_of S M iv room ≡ accept d → DatagramOf S M d
  unfolding write_datagram_of
  written_datagram d e =
      let w = written_inv S M iv (λ _. g.iv_size) outer room d e in
      record { packet = ours S M iv; bytes = sym w.2; frame = ours_frame w.0 w.1 }
