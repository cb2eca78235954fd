-- The marked cases hold.
use Prim.Native.Nat.{ℕ, ◌+◌, ◌-◌, ◌*◌, ◌%◌, ◌≤◌, ◌<◌}
use native.Mathlib.Omega.{arith}
use mathlib.Core.Bool.{Bool, true, false, false≢true, cond, not}
use mathlib.Core.List.{List, [], ◌∷◌, ◌++◌}
use mathlib.Core.Path.{◌≡◌, refl, sym, ◌∙◌, ap, subst}
use lib.ListN.{length, take, drop, replicate, length-drop}
use lib.Dec.{leb, eqb}
use lib.Seq.{length-take-le}
use borrow.Author.Tests.{le-leb, lt-leb, eq-eqb}
use Rattle.refusal.specs.Order.{Res, refuse, accept, need, and_then}
use Rattle.refusal.proofs.Order.{pass, need_no, then_accept, then_refuse}
use Rattle.octets.specs.Number.{le}
use Rattle.hmac.specs.Count.{ceiling}
use Rattle.running.specs.Hash.{Hash, Sized}
use Rattle.running.proofs.Sizes.{mac_count_short}
use Rattle.framing.specs.Known.{known}
use Rattle.framing.specs.Suite.{Suite}
use Rattle.framing.specs.Packet.{Message, Filling, bit, plain_of, body_of, header_of, framed, covered, build}
use Rattle.framing.specs.Read.{longest_packet, message_of, body_length, head_of, coverage, code_of, trailer_of, before_trailer, decrypted, payload_in}
use Rattle.framing.specs.Read.{body_in, payload_behind, rest_of, read_of, read_with}
use Rattle.framing.specs.Write.{least_p, least_q, body_size, trailer_size, packet_size, our_filling, ours, longest_payload, room_of, write_after}
use Rattle.framing.specs.Outer.{outer, write_of, write_datagram_of}
use Rattle.framing.specs.Marked.{Every, Taken, filling_of, size_of, Writes, Sealed, Encrypted, Both, Body, Padded}
use Rattle.framing.specs.Marked.{TooFew, GoesOn, Compresses, marked_cases}
use Rattle.octets.proofs.Order.{by_cases, cond_true, cond_false}
use Rattle.framing.proofs.Complete.{trailer_is, build_bare}
use Rattle.framing.proofs.RoundTrip.{size_body, size_ours}
use Rattle.framing.proofs.Rooms.{room_14, room_done}

-- what follows once head and trailer let a packet pass
reached : (S : Suite) (l : List ℕ) (ty k : ℕ) {r : Res Message} → head_of S l ≡ accept ty → before_trailer S (code_of S l) l ≡ accept k
    → and_then (body_in S (take k l)) (λ payload. accept (message_of ty l payload)) ≡ r → read_of S l ≡ r
unfolding read_of read_with rest_of payload_behind
reached S l ty k h t e =
    then_accept (head_of S l) (rest_of S (code_of S l) l) ty h
    ∙ ap (λ (x : Res (List ℕ)). and_then x (λ payload. accept (message_of ty l payload))) (then_accept (before_trailer S (code_of S l) l) _ k t) ∙ e

-- the writer's answers, by the lengths
same-build : (S : Suite) (M : Message) (F G : Filling) → body_of S M F ≡ body_of S M G → F.pads ≡ G.pads → build S M F ≡ build S M G
unfolding build covered framed
same-build S M F G e h =
    let cover : covered S M F ≡ covered S M G = λ i. (header_of S M (length (e i)) ++ e i) ++ (h i ++ (length (h i) ∷ 0x07 ∷ [])) in
    λ i. cond S.auth (cover i ++ S.mac (cover i)) (header_of S M (length (e i)) ++ e i)

module _ (S : Suite) (M : Message) (iv : List ℕ) (z : Taken) (hp : S.aes ≡ true → least_p (length M.payload) ≡ z.p)
    (hb : body_size S.aes (length M.payload) ≡ z.body) (hq : least_q (12 + z.body) ≡ z.q) where
  abbrev n : ℕ
  n = length M.payload

  same_body : body_of S M (our_filling S iv M.payload) ≡ body_of S M (filling_of iv z)
  unfolding body_of
  same_body =
      by_cases S.aes
      (λ a i. cond S.aes (iv ++ S.enc iv (plain_of M.payload (hp a i))) M.payload)
      (λ a. cond_false S.aes _ M.payload a ∙ sym (cond_false S.aes _ M.payload a))

  same_packet : ours S M iv ≡ build S M (filling_of iv z)
  unfolding ours
  same_packet = same-build S M _ _ same_body (ap (λ (k : ℕ). replicate k 0xFF) (ap (λ (b : ℕ). least_q (12 + b)) hb ∙ hq))

  same_size : packet_size S n ≡ size_of S z
  same_size =
      by_cases S.auth
      (λ g. (λ i. 12 + hb i + trailer_size (g i) S.m (12 + hb i)) ∙ ap (λ (k : ℕ). 12 + z.body + (k + 2 + S.m)) hq
      ∙ ap (λ (b : Bool). 12 + z.body + cond b (z.q + 2 + S.m) 0) (sym g))
      (λ g. (λ i. 12 + hb i + trailer_size (g i) S.m (12 + hb i)) ∙ ap (λ (b : Bool). 12 + z.body + cond b (z.q + 2 + S.m) 0) (sym g))

  module _ (h : n ≤ 65535) (g : n ≤ longest_payload S.aes) where
    written : (before : List ℕ) (room : ℕ) → length before + size_of S z ≤ room → write_after before S M iv room ≡ accept (before ++ build S M (filling_of iv z))
    unfolding write_after
    written before room k =
        let size : length before + size_of S z ≡ length before + packet_size S n = ap (λ (i : ℕ). length before + i) (sym same_size) in
        then_accept _ _ _ (sym (room_done S (length before) n room h g _ size k)) ∙ ap (λ (x : List ℕ). accept (before ++ x)) same_packet

    writes : Writes S M iv z
    unfolding write_of write_datagram_of
    writes =
        record {
          body = λ K hi. ap length (sym same_body) ∙ size_body S M iv hi K ∙ hb;
          size = λ L hi. ap length (sym same_packet) ∙ size_ours S M iv hi L ∙ same_size;
          packet = λ room k. written [] room (omega arith);
          datagram = written outer;
        }

sealed : (n q t : ℕ) → least_q (12 + n) ≡ q → n ≤ 65535 → 12 + n + (q + 2 + 12) ≡ t → Sealed n q t
sealed n q t hq h ht S a g m = (
  λ M iv hn.
      let few : length M.payload ≤ 65535 = omega arith in
      writes S M iv _ (λ b. absurd (false≢true (sym a ∙ b))) ((λ i. body_size (a i) (length M.payload)) ∙ hn) hq few
      (subst (λ (b : Bool). length M.payload ≤ longest_payload b) (sym a) few),
  (λ i. 12 + n + cond (g i) (q + 2 + m i) 0) ∙ ht,
)

encrypted : (n : ℕ) (z : Taken) → least_p n ≡ z.p → 16 + n + least_p n + 1 ≡ z.body → least_q (12 + z.body) ≡ z.q → n ≤ 65503 → Encrypted n (accept z)
encrypted n z hp hb hq h S a M iv hn =
    let few : length M.payload ≤ 65535 = omega arith in
    let fits : length M.payload ≤ 65503 = omega arith in
    writes S M iv z (λ _. ap least_p hn ∙ hp) ((λ i. body_size (a i) (hn i)) ∙ hb) hq few
    (subst (λ (b : Bool). length M.payload ≤ longest_payload b) (sym a) fits)

both : (n : ℕ) (z : Taken) (t : ℕ) → Encrypted n (accept z) → 12 + z.body + (z.q + 2 + 12) ≡ t → Both n z t
both n z t f ht S a g m = (f S a, (λ i. 12 + z.body + cond (g i) (z.q + 2 + m i) 0) ∙ ht)

too_long : (n : ℕ) → 65503 < n → n ≤ 65535 → Encrypted n (refuse 14 0)
unfolding write_of write_datagram_of write_after
too_long n h k S a M iv hn =
    let few : length M.payload ≤ 65535 = omega arith in
    let many : 65503 < length M.payload = omega arith in
    let over : longest_payload S.aes < length M.payload = subst (λ (b : Bool). longest_payload b < length M.payload) (sym a) many in
    record { packet = λ room. refused few over [] room; datagram = λ room. refused few over outer room }
  where
    refused : length M.payload ≤ 65535 → longest_payload S.aes < length M.payload → (before : List ℕ) (room : ℕ)
        → write_after before S M iv room ≡ refuse 14 0
    refused few over before room = then_refuse _ _ 14 0 (sym (room_14 S (length before) (length M.payload) room few over))

-- an encrypted body that is told rightly comes to the tests of `decrypted`
body : (n r : ℕ) → ((S : Suite) (b : List ℕ) → length b ≡ n → decrypted S b ≡ refuse r 0) → Body n r
unfolding body_in payload_in
body n r f S a l ty d e =
    let x : List ℕ = take (12 + n) l in
    let long : 12 ≤ length x = omega (arith, d.within) in
    let rest : length x - 12 ≡ n = omega (arith, d.within) in
    reached S l ty (12 + n) d.head d.trailer
    (then_refuse _ _ r 0
    (pass _ _ _ _ (le-leb _ _ long)
    (pass _ _ _ _ (eq-eqb _ _ (e ∙ sym rest))
    (cond_true S.aes (decrypted S (drop 12 x)) (accept (drop 12 x)) a ∙ f S (drop 12 x) (length-drop 12 x ∙ rest)))))

body_15 : Body 15 1
unfolding decrypted
body_15 = body 15 1 (λ S b h. need_no _ _ _ _ (ap (leb 16) h))

body_16 : Body 16 10
unfolding decrypted
body_16 =
    body 16 10 (λ S b h. pass _ _ _ _ (ap (leb 16) h)
    (pass _ _ _ _ (ap (λ (k : ℕ). eqb ((k - 16) % 16) 0) h) (need_no _ _ _ _ (ap (λ (k : ℕ). not (eqb (k - 16) 0)) h))))

body_31 : Body 31 12
unfolding decrypted
body_31 = body 31 12 (λ S b h. pass _ _ _ _ (ap (leb 16) h) (need_no _ _ _ _ (ap (λ (k : ℕ). eqb ((k - 16) % 16) 0) h)))

-- the trailer of a padded packet
padded : (S : Suite) (l : List ℕ) (ty q : ℕ) → Padded S l ty q → before_trailer S (code_of S l) l ≡ accept (20 - q)
unfolding before_trailer
padded S l ty q d =
    let cover : coverage S l ≡ 22 = omega (arith, d.size) in
    let long : S.m + 2 ≤ length l = omega (arith, d.size) in
    cond_true S.auth (trailer_of S (code_of S l) l) (accept (length l)) d.auth
    ∙ trailer_is S (code_of S l) l 22 q cover long (ap (λ (k : ℕ). drop k l) (sym cover) ∙ d.code) d.next d.count

too_few : (q : ℕ) → 20 - q < 12 → TooFew q
unfolding body_in
too_few q h S l ty d =
    let fits : 20 - q ≤ length l = omega (arith, d.size) in
    let few : length (take (20 - q) l) < 12 = subst (λ (k : ℕ). k < 12) (sym (length-take-le (20 - q) l fits)) h in
    reached S l ty (20 - q) d.head (padded S l ty q d) (then_refuse _ _ 1 0 (need_no _ _ _ _ (lt-leb _ _ few)))

goes_on : GoesOn 8 0
unfolding body_in
goes_on S l ty d =
    let size : length (take 12 l) ≡ 12 = length-take-le 12 l (omega (arith, d.size)) in
    reached S l ty 12 d.head (padded S l ty 8 d)
    (ap (λ (r : Res (List ℕ)). and_then r (λ payload. accept (message_of ty l payload)))
    (pass _ _ _ _ (ap (leb 12) size) (ap (λ (k : ℕ). need (eqb (body_length (take 12 l)) (k - 12)) 9 0 (payload_in S (drop 12 (take 12 l)))) size)))

-- the packet of the first case, and its message
abbrev bytes : List ℕ
bytes = 0x06 ∷ 0x00 ∷ 0x0D ∷ 0x0C ∷ 0x0B ∷ 0x0A ∷ 0x01 ∷ 0x00 ∷ 0x00 ∷ 0x00 ∷ 0x02 ∷ 0x00 ∷ 0xAA ∷ 0xBB ∷ []

abbrev said : Message
said = record { ty = 0; id = 0x0A0B0C0D; seq = 1; payload = 0xAA ∷ 0xBB ∷ [] }

first_read : (S : Suite) → S.aes ≡ false → S.auth ≡ false → read_of S bytes ≡ accept said
unfolding head_of known before_trailer body_in payload_in
first_read S a g =
    let short : 14 ≤ longest_packet S = omega arith in
    reached S bytes 0 14
    (pass _ _ _ _ refl
    (pass _ _ _ _ refl
    (pass _ _ _ _ refl
    (pass _ _ _ _ (ap (λ (b : Bool). eqb 0 (bit b)) a)
    (pass _ _ _ _ (ap (λ (b : Bool). eqb 0 (bit b)) g)
    (pass _ _ _ _ (le-leb _ _ short) refl))))))
    (cond_false S.auth (trailer_of S (code_of S bytes) bytes) (accept 14) g)
    (then_accept _ _ said.payload
    (pass _ _ _ _ refl (pass _ _ _ _ refl (cond_false S.aes (decrypted S said.payload) (accept said.payload) a))))

first_written : (S : Suite) → S.aes ≡ false → S.auth ≡ false → (iv : List ℕ) → write_of S said iv (length bytes) ≡ accept bytes
unfolding write_of write_after room_of ours framed header_of body_of
first_written S a g iv =
    let F : Filling = our_filling S iv said.payload in
    let x : List ℕ = F.iv ++ S.enc F.iv (plain_of said.payload F.p) in
    let size : 0 + packet_size S 2 ≡ 14 = λ i. 0 + (12 + body_size (a i) 2 + trailer_size (g i) S.m (12 + body_size (a i) 2)) in
    then_accept _ _ 14
    (pass _ _ _ _ refl (pass _ _ _ _ (ap (λ (b : Bool). leb 2 (longest_payload b)) a) (pass _ _ _ _ (ap (λ (k : ℕ). leb k 14) size) (ap accept size))))
    ∙ ap accept (build_bare S said F g
    ∙ (λ i.
    (0x06 ∷ (128 * bit (a i) + 64 * bit (g i) + 0) ∷ (le 4 0x0A0B0C0D ++ (le 4 1 ++ le 2 (length (cond (a i) x said.payload)))))
    ++ cond (a i) x said.payload))

-- the count is a formula of the length
compresses : {C : Type 0} (H : Hash C) → Sized H → (n b : ℕ) → ceiling (n + 73) 64 + 2 ≡ b → Compresses H n b
compresses H z n b e k l h g = mac_count_short H z k l h ∙ ap (λ (i : ℕ). ceiling (i + 73) 64 + 2) g ∙ e

infixr 20 ◌also◌
◌also◌ : {A B : Type 0} → A → B → A × B
◌also◌ a b = (a, b)

pub marked : {C : Type 0} (H : Hash C) → Sized H → Every (marked_cases H)
marked H z =
    record { reads = first_read; writes = first_written }
    also sealed 0 2 28 refl (omega arith) refl
    also sealed 1 1 28 refl (omega arith) refl
    also sealed 2 0 28 refl (omega arith) refl
    also sealed 3 3 32 refl (omega arith) refl
    also both 0 _ 60 (encrypted 0 (record { p = 15; q = 2; body = 32 }) refl refl refl (omega arith)) refl
    also encrypted 15 _ refl refl refl (omega arith)
    also encrypted 16 _ refl refl refl (omega arith)
    also encrypted 65503 _ refl refl refl (omega arith)
    also too_long 65504 (omega arith) (omega arith)
    also body_15
    also body_16
    also body_31
    also goes_on
    also too_few 9 (omega arith)
    also too_few 11 (omega arith)
    also compresses H z 0 4 refl
    also compresses H z 55 4 refl
    also compresses H z 56 5 refl
    also tt
