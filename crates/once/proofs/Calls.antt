-- The guarded reader's calls: for every session, record, packet and datagram. Of a call nothing is used but its contract and what the types of
-- its arguments say (`Call`, in refusal's specs).
use Prim.Native.Nat.{ℕ}
use mathlib.Core.Bool.{Bool}
use mathlib.Core.List.{List, ◌++◌}
use mathlib.Core.Path.{◌≡◌, refl, sym, ◌∙◌, ap, subst₂}
use lib.ListN.{length, get_or, take, drop}
use mir.Syntax.{w8}
use mir.Val.{Fits}
use borrow.Author.Rules.{rules}
use borrow.Fn.Kinds.{GoodsP}
use Rattle.refusal.specs.Call.{Call}
use Rattle.refusal.specs.Order.{Res, refuse}
use Rattle.framing.specs.Suite.{Suite, Laws}
use Rattle.framing.specs.Packet.{Message}
use Rattle.framing.specs.Read.{read_of, opened, left_by, left_of, blocks_of}
use Rattle.framing.specs.Outer.{read_datagram_of, left_datagram, blocks_datagram}
use Rattle.framing.specs.Payload.{payload_of}
use Rattle.framing.specs.Frames.{FrameOf, DatagramOf}
use Rattle.framing.proofs.Exactly.{accepts_exactly, datagram_exactly}
use Rattle.framing.proofs.Opened.{frame_payload, datagram_payload}
use Rattle.suite.specs.Session.{suite_of}
use Rattle.suite.specs.declared.SubState.{SubState}
use Rattle.suite.proofs.Suites.{suite_laws}
use Rattle.frame.specs.Answers.{ReadPromise}
use Rattle.frame.proofs.Calls.{ReadCall, ReadDatagramCall, Hands}
use Rattle.once.specs.Exact.{OnceSeen, Guards, AsFound, OnceExact}
use Rattle.once.proofs.Numbers.{read_below, datagram_below}
use Rattle.once.proofs.Reader.{as_found, guards, once_exact}
use Rattle.once.proofs.read_payload.Kinds as read-payload-kinds
use Rattle.once.proofs.read_payload.Reads as read-payload-reads
use Rattle.once.proofs.read_datagram.Kinds as read-datagram-kinds
use Rattle.once.proofs.read_datagram.Reads as read-datagram-reads

-- the calls, and as they are seen from outside
abbrev pub OnceCall : Type 0
OnceCall = Call 1 read-payload-kinds.ps read-payload-kinds.r read-payload-reads.Post

abbrev pub OnceDatagramCall : Type 0
OnceDatagramCall = Call 1 read-datagram-kinds.ps read-datagram-kinds.r read-datagram-reads.Post

abbrev pub seen_once : OnceCall → OnceSeen
seen_once c =
    record { session = c.args.0; arrivals = c.args.1.0; lent = c.args.1.1.0.now; answer = c.answer; left = c.exit.1.1.0.now }

abbrev pub seen_once_datagram : OnceDatagramCall → OnceSeen
seen_once_datagram c =
    record { session = c.args.0; arrivals = c.args.1.0; lent = c.args.1.1.0.now; answer = c.answer; left = c.exit.1.1.0.now }

-- the algorithms of the session of both calls, whose arguments have the same kinds
once_laws : (κs : _) (args : _) → GoodsP κs read-payload-kinds.ps args → Laws (suite_of args.0)
once_laws κs args g = suite_laws args.0 (λ k. let f : Fits w8 (get_or args.0.keys.k2 k 0) = search (rules, g) in f.fits)

-- what the payload call hands out, by its promise
handed : (packet : List ℕ) (encrypted : Bool) (n : ℕ) (x : List ℕ) → Hands packet encrypted n x → x ≡ payload_of packet encrypted n
handed packet encrypted n x h = sym h.bytes ∙ h.call.kept.0 ∙ λ i. payload_of (h.on i) (h.told i) (h.len i)

-- of what it refuses reading leaves what was lent
unread : (S : Suite) (l : List ℕ) (n v : ℕ) → read_of S l ≡ refuse n v → left_of S l ≡ l
unfolding left_of
unread S l n v e = ap (λ (r : Res Message). left_by r l (opened S l)) e

unread_datagram : (S : Suite) (d : List ℕ) (n v : ℕ) → read_datagram_of S d ≡ refuse n v → left_datagram S d ≡ d
unfolding left_datagram
unread_datagram S d n v e = ap (λ (r : Res Message). left_by r d (take 4 d ++ opened S (drop 4 d))) e

-- a packet that is read once
module _ (c : OnceCall) where
  abbrev o : OnceSeen
  o = seen_once c

  pub once_as_found : AsFound (seen_once c)
  once_as_found = as_found o.arrivals _ _ _ o.lent o c.kept.0 refl refl

  -- a read call of that session on those bytes answers the same, but where the number is refused
  pub once_reads : (r : ReadCall) → r.args.0 ≡ (seen_once c).session → r.args.1.0.now ≡ (seen_once c).lent
      → Guards (seen_once c) r.answer r.exit.1.0.now
  once_reads r e f =
      guards o.arrivals _ _ _ _ (unread (suite_of o.session) o.lent) r.answer _
      (subst₂
      (λ (s : SubState) (l : List ℕ). ReadPromise (read_of (suite_of s) l) (blocks_of (suite_of s) l) (left_of (suite_of s) l) r.answer
      r.exit.1.0.now) e f r.kept.0)
      o c.kept.0 refl refl

  pub once_payload_exact : OnceExact (λ M. FrameOf (suite_of (seen_once c).session) M (seen_once c).lent) (seen_once c).arrivals
      (seen_once c).answer.read.answer (Hands (seen_once c).left (suite_of (seen_once c).session).aes)
  once_payload_exact =
      let S : Suite = suite_of o.session in
      let L : Laws S = once_laws c.κs c.args c.typed in
      let e = accepts_exactly S L o.lent c.kept.1 in
      once_exact o.arrivals (read_of S o.lent) _ _ _ (λ M. FrameOf S M o.lent) e (read_below S o.lent) o.answer o.left c.kept.0
      (Hands o.left S.aes)
      (λ M x f g h. handed _ _ _ x h ∙ ap (λ (y : List ℕ). payload_of y S.aes (length M.payload)) g ∙ frame_payload S L M o.lent ((e M).0 f))

-- a datagram
module _ (c : OnceDatagramCall) where
  abbrev d : OnceSeen
  d = seen_once_datagram c

  pub once_datagram_as_found : AsFound (seen_once_datagram c)
  once_datagram_as_found = as_found d.arrivals _ _ _ d.lent d c.kept.0 refl refl

  pub once_reads_datagram : (r : ReadDatagramCall) → r.args.0 ≡ (seen_once_datagram c).session → r.args.1.0.now ≡ (seen_once_datagram c).lent
      → Guards (seen_once_datagram c) r.answer r.exit.1.0.now
  once_reads_datagram r e f =
      guards d.arrivals _ _ _ _ (unread_datagram (suite_of d.session) d.lent) r.answer _
      (subst₂
      (λ (s : SubState) (l : List ℕ). ReadPromise (read_datagram_of (suite_of s) l) (blocks_datagram (suite_of s) l) (left_datagram (suite_of s) l) r.answer
      r.exit.1.0.now) e f r.kept.0)
      d c.kept.0 refl refl

  pub once_datagram_exact : OnceExact (λ M. DatagramOf (suite_of (seen_once_datagram c).session) M (seen_once_datagram c).lent) (seen_once_datagram c).arrivals
      (seen_once_datagram c).answer.read.answer (Hands (drop 4 (seen_once_datagram c).left) (suite_of (seen_once_datagram c).session).aes)
  once_datagram_exact =
      let S : Suite = suite_of d.session in
      let L : Laws S = once_laws c.κs c.args c.typed in
      let e = datagram_exactly S L d.lent c.kept.1 in
      once_exact d.arrivals (read_datagram_of S d.lent) _ _ _ (λ M. DatagramOf S M d.lent) e (datagram_below S d.lent) d.answer d.left
      c.kept.0 (Hands (drop 4 d.left) S.aes)
      (λ M x f g h. handed _ _ _ x h ∙ ap (λ (y : List ℕ). payload_of (drop 4 y) S.aes (length M.payload)) g
      ∙ datagram_payload S L M d.lent ((e M).0 f))
