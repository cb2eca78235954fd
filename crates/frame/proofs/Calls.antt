-- Reading and writing as the calls do it: for every session, packet and output. Of a call nothing is used but its contract and what the
-- types of its arguments say (`Call`, in refusal's specs).
use Prim.Native.Nat.{ℕ}
use mathlib.Core.Bool.{Bool, true}
use mathlib.Core.List.{List, []}
use mathlib.Core.Logic.{◌↔◌}
use mathlib.Core.Path.{◌≡◌, refl, sym, ◌∙◌, ap, subst₂}
use lib.ListN.{length, get_or, take, drop}
use mir.Syntax.{w8, w32}
use mir.Val.{Fits}
use borrow.Author.Rules.{rules}
use borrow.Fn.Kinds.{Dens, GoodsP}
use Rattle.std.specs.Prelude.{Result, Ok}
use Rattle.refusal.specs.Call.{Call}
use Rattle.refusal.specs.Order.{Res, accept}
use Rattle.refusal.specs.declared.Refusal.{Refusal}
use Rattle.refusal.proofs.Order.{accept_inj, then_inv}
use Rattle.octets.specs.Bytes.{Bytes}
use Rattle.octets.proofs.Place.{begun_take}
use Rattle.framing.specs.Known.{known}
use Rattle.framing.specs.Suite.{Suite, Laws}
use Rattle.framing.specs.Packet.{Message}
use Rattle.framing.specs.Read.{read_of}
use Rattle.framing.specs.Write.{wrote_by}
use Rattle.framing.specs.Outer.{read_datagram_of}
use Rattle.framing.specs.Payload.{payload_of, PassesOrNone}
use Rattle.framing.specs.Told.{counted}
use Rattle.framing.specs.Frames.{FrameOf, DatagramOf, Given}
use Rattle.framing.proofs.Exactly.{frame_read, accepts_exactly, datagram_read, datagram_exactly}
use Rattle.framing.proofs.Opened.{payload_empty, frame_payload, datagram_payload}
use Rattle.framing.proofs.RoundTrip.{written_frame, written_datagram}
use Rattle.suite.specs.Session.{suite_of}
use Rattle.suite.specs.declared.SubState.{SubState}
use Rattle.suite.specs.declared.PayloadType.{PayloadType}
use Rattle.suite.specs.declared.PayloadType.TheVariants.{IpmiMessage, Sol, RmcpPlusOpenSessionRequest, RmcpPlusOpenSessionResponse}
use Rattle.suite.specs.declared.PayloadType.TheVariants.{RakpMessage1, RakpMessage2, RakpMessage3, RakpMessage4}
use Rattle.suite.specs.Types.{type_number}
use Rattle.suite.proofs.Suites.{suite_laws, suite_lengths}
use Rattle.writer.specs.Answers.{written_told, WritePromise}
use Rattle.writer.proofs.write_payload.Kinds as write-payload-kinds
use Rattle.writer.proofs.write_payload.Reads as write-payload-reads
use Rattle.writer.proofs.write_datagram.Kinds as write-datagram-kinds
use Rattle.writer.proofs.write_datagram.Reads as write-datagram-reads
use Rattle.frame.specs.Exact.{ReadSeen, WriteSeen, message_told, Exact, Follows, ReadBack}
use Rattle.frame.proofs.Exact.{exact, read_back}
use Rattle.frame.proofs.place.payload.Kinds as payload-kinds
use Rattle.frame.proofs.place.payload.Reads as payload-reads
use Rattle.frame.proofs.opening.read_payload.Kinds as read-payload-kinds
use Rattle.frame.proofs.opening.read_payload.Reads as read-payload-reads
use Rattle.frame.proofs.opening.read_datagram.Kinds as read-datagram-kinds
use Rattle.frame.proofs.opening.read_datagram.Reads as read-datagram-reads

-- the calls
abbrev pub PayloadCall : Type 0
PayloadCall = Call 1 payload-kinds.ps payload-kinds.r payload-reads.Post

abbrev pub ReadCall : Type 0
ReadCall = Call 1 read-payload-kinds.ps read-payload-kinds.r read-payload-reads.Post

abbrev pub ReadDatagramCall : Type 0
ReadDatagramCall = Call 1 read-datagram-kinds.ps read-datagram-kinds.r read-datagram-reads.Post

abbrev pub WriteCall : Type 0
WriteCall = Call 2 write-payload-kinds.ps write-payload-kinds.r write-payload-reads.Post

abbrev pub WriteDatagramCall : Type 0
WriteDatagramCall = Call 2 write-datagram-kinds.ps write-datagram-kinds.r write-datagram-reads.Post

-- a call of `payload` on a packet, told whether it is encrypted and n bytes, hands x out
pub record Hands (packet : List ℕ) (encrypted : Bool) (n : ℕ) (x : List ℕ) : Type 0 where
  pub call : PayloadCall
  pub on : call.args.0.now ≡ packet
  pub told : call.args.1.0 ≡ encrypted
  pub len : call.args.1.1.0 ≡ n
  pub bytes : call.answer.now ≡ x

handed : (packet : List ℕ) (encrypted : Bool) (n : ℕ) (x : List ℕ) → Hands packet encrypted n x → x ≡ payload_of packet encrypted n
handed packet encrypted n x h = sym h.bytes ∙ h.call.kept.0 ∙ λ i. payload_of (h.on i) (h.told i) (h.len i)

-- it hands out an empty part exactly when the length is 0 or the part would pass the packet's end
pub payload_call_empty : (c : PayloadCall) → (c.answer.now ≡ []) ↔ PassesOrNone c.args.0.now c.args.1.0 c.args.1.1.0
payload_call_empty c =
    let e = payload_empty c.args.0.now c.args.1.0 c.args.1.1.0 in
    (λ f. e.0 (sym c.kept.0 ∙ f), λ f. c.kept.0 ∙ e.1 f)

-- the calls as they are seen from outside
abbrev pub seen_read : ReadCall → ReadSeen
seen_read c = record { session = c.args.0; lent = c.args.1.0.now; answer = c.answer.answer; left = c.exit.1.0.now }

abbrev pub seen_read_datagram : ReadDatagramCall → ReadSeen
seen_read_datagram c = record { session = c.args.0; lent = c.args.1.0.now; answer = c.answer.answer; left = c.exit.1.0.now }

-- the arguments of both write calls have the same kinds: session, type, id, number, payload, IV, output
abbrev pub seen_arguments : (κs : _) → Dens κs write-payload-kinds.ps → Result ℕ Refusal → List ℕ → WriteSeen
seen_arguments κs args answer left =
    record {
      session = args.0;
      ty = args.1.0;
      id = args.1.1.0;
      seq = args.1.1.1.0;
      payload = args.1.1.1.1.0.now;
      answer = answer;
      left = left;
    }

abbrev pub seen_write : WriteCall → WriteSeen
seen_write c = seen_arguments c.κs c.args c.answer c.exit.1.1.1.1.1.1.0.now

abbrev pub seen_write_datagram : WriteDatagramCall → WriteSeen
seen_write_datagram c = seen_arguments c.κs c.args c.answer c.exit.1.1.1.1.1.1.0.now

-- the algorithms of the session of both read calls, which have the same kinds too
read_laws : (κs : _) (args : _) → GoodsP κs read-payload-kinds.ps args → Laws (suite_of args.0)
read_laws κs args g = suite_laws args.0 (λ k. let f : Fits w8 (get_or args.0.keys.k2 k 0) = search (rules, g) in f.fits)

-- a packet that is read
module _ (c : ReadCall) where
  abbrev r : ReadSeen
  r = seen_read c

  pub read_payload_exact : Exact (λ M. FrameOf (suite_of (seen_read c).session) M (seen_read c).lent) (seen_read c).answer
      (Hands (seen_read c).left (suite_of (seen_read c).session).aes)
  read_payload_exact =
      let S : Suite = suite_of r.session in
      let L : Laws S = read_laws c.κs c.args c.typed in
      let e = accepts_exactly S L r.lent c.kept.1 in
      exact (read_of S r.lent) r.answer c.kept.0.tells.answer (Hands r.left S.aes) (λ M. FrameOf S M r.lent) e
      (λ M x f h. handed _ _ _ x h ∙ ap (λ (y : List ℕ). payload_of y S.aes (length M.payload)) c.kept.0.buffer
      ∙ frame_payload S L M r.lent ((e M).0 f))

-- a datagram that is read: the packet is what stands behind its first four bytes
module _ (c : ReadDatagramCall) where
  abbrev d : ReadSeen
  d = seen_read_datagram c

  pub read_datagram_exact : Exact (λ M. DatagramOf (suite_of (seen_read_datagram c).session) M (seen_read_datagram c).lent) (seen_read_datagram c).answer
      (Hands (drop 4 (seen_read_datagram c).left) (suite_of (seen_read_datagram c).session).aes)
  read_datagram_exact =
      let S : Suite = suite_of d.session in
      let L : Laws S = read_laws c.κs c.args c.typed in
      let e = datagram_exactly S L d.lent c.kept.1 in
      exact (read_datagram_of S d.lent) d.answer c.kept.0.tells.answer (Hands (drop 4 d.left) S.aes) (λ M. DatagramOf S M d.lent) e
      (λ M x f h. handed _ _ _ x h ∙ ap (λ (y : List ℕ). payload_of (drop 4 y) S.aes (length M.payload)) c.kept.0.buffer
      ∙ datagram_payload S L M d.lent ((e M).0 f))

-- what a writer told the length of is what it wrote
wrote : (R : Res (List ℕ)) (out : List ℕ) (w : Result ℕ Refusal) (n : ℕ) (exit : List ℕ) → w ≡ Ok n → WritePromise R out w exit → R ≡ accept (take n exit)
unfolding counted
wrote R out w n exit e p =
    let t = then_inv R _ n (sym p.answer ∙ ap written_told e) in
    let size : length t.0 ≡ n = accept_inj _ _ t.2 in
    t.1 ∙ ap accept (sym (ap (take n) (p.buffer ∙ ap (λ (x : Res (List ℕ)). wrote_by x out) t.1) ∙ begun_take t.0 out n size))

-- every type has a number that stands for one
type_known : (t : PayloadType) → known (type_number t) ≡ true
unfolding known
type_known IpmiMessage = refl
type_known Sol = refl
type_known RmcpPlusOpenSessionRequest = refl
type_known RmcpPlusOpenSessionResponse = refl
type_known RakpMessage1 = refl
type_known RakpMessage2 = refl
type_known RakpMessage3 = refl
type_known RakpMessage4 = refl

-- what the arguments of a write call give
module _ (κs : _) (args : Dens κs write-payload-kinds.ps) where
  abbrev message : Message
  message = message_told args.1.0 args.1.1.0 args.1.1.1.0 args.1.1.1.1.0.now

  module _ (g : GoodsP κs write-payload-kinds.ps args) where
    given : Bytes args.1.1.1.1.0.now → Given message args.1.1.1.1.1.0
    given b =
        record {
          ty_known = type_known args.1.0;
          id_fits = (let f : Fits w32 args.1.1.0 = search (rules, g) in f.fits);
          seq_fits = (let f : Fits w32 args.1.1.1.0 = search (rules, g) in f.fits);
          payload_bytes = b;
          iv_size = search (rules, g);
          iv_bytes = λ k. let f : Fits w8 (get_or args.1.1.1.1.1.0 k 0) = search (rules, g) in f.fits;
        }

-- a packet that a write call wrote is read back by a read call
module _ (w : WriteCall) (c : ReadCall) (f : Follows (seen_write w) (seen_read c)) where
  pub write_payload_read_back : ReadBack (seen_write w) (seen_read c).answer (Hands (seen_read c).left (suite_of (seen_read c).session).aes)
  write_payload_read_back =
      let S : Suite = suite_of (seen_read c).session in
      let M : Message = message w.κs w.args in
      let L : Laws S = read_laws c.κs c.args c.typed in
      let g = given w.κs w.args w.typed w.kept.1 in
      let R = wrote _ _ w.answer f.length _ f.told w.kept.0 in
      let made = written_frame (suite_of w.args.0) (suite_lengths w.args.0).enc_length M _ g _ _ R in
      let o : FrameOf S M (seen_read c).lent = subst₂ (λ (s : SubState) (l : List ℕ). FrameOf (suite_of s) M l) (sym f.session) (sym f.lent) made in
      read_back _ (seen_read c).answer c.kept.0.tells.answer _ (seen_write w) (frame_read S L M _ o)
      (λ x h. handed _ _ _ x h ∙ ap (λ (y : List ℕ). payload_of y S.aes (length M.payload)) c.kept.0.buffer ∙ frame_payload S L M _ o)

-- and so is a datagram
module _ (w : WriteDatagramCall) (c : ReadDatagramCall) (f : Follows (seen_write_datagram w) (seen_read_datagram c)) where
  pub write_datagram_read_back : ReadBack (seen_write_datagram w) (seen_read_datagram c).answer
      (Hands (drop 4 (seen_read_datagram c).left) (suite_of (seen_read_datagram c).session).aes)
  write_datagram_read_back =
      let S : Suite = suite_of (seen_read_datagram c).session in
      let M : Message = message w.κs w.args in
      let L : Laws S = read_laws c.κs c.args c.typed in
      let g = given w.κs w.args w.typed w.kept.1 in
      let R = wrote _ _ w.answer f.length _ f.told w.kept.0 in
      let made = written_datagram (suite_of w.args.0) (suite_lengths w.args.0).enc_length M _ g _ _ R in
      let o : DatagramOf S M (seen_read_datagram c).lent
      = subst₂ (λ (s : SubState) (l : List ℕ). DatagramOf (suite_of s) M l) (sym f.session) (sym f.lent) made in
      read_back _ (seen_read_datagram c).answer c.kept.0.tells.answer _ (seen_write_datagram w) (datagram_read S L M _ o)
      (λ x h. handed _ _ _ x h ∙ ap (λ (y : List ℕ). payload_of (drop 4 y) S.aes (length M.payload)) c.kept.0.buffer ∙ datagram_payload S L M _ o)
