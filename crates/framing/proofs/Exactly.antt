-- The reader accepts the frames of the rules, all of them, and nothing else: over any suite that keeps the laws.
use Prim.Native.Nat.{ℕ}
use mathlib.Core.List.{List, ◌++◌}
use mathlib.Core.Logic.{◌↔◌}
use mathlib.Core.Path.{◌≡◌, refl, sym, ◌∙◌, ap}
use lib.ListN.{drop, take-append-drop}
use Rattle.refusal.specs.Order.{Res, refuse, accept}
use Rattle.refusal.proofs.Order.{accept_inj, refuse≢accept, then_accept, then_inv}
use Rattle.octets.specs.Bytes.{Bytes}
use Rattle.octets.proofs.Bytes.{bytes_drop}
use Rattle.framing.specs.Suite.{Suite, Laws}
use Rattle.framing.specs.Packet.{Message}
use Rattle.framing.specs.Read.{read_of}
use Rattle.framing.specs.Outer.{outer, outer_of, read_datagram_of}
use Rattle.framing.specs.Frames.{FrameOf, DatagramOf, Only, NoMessage}
use Rattle.framing.proofs.Outer.{outer_inv, outer_before}
use Rattle.framing.proofs.Complete.{complete}
use Rattle.framing.proofs.Sound.{sound}

-- where reading accepts with a message exactly when the bytes carry that message
module _ (Of : Message → Type 0) (R : Res Message) (exactly : (M : Message) → (R ≡ accept M) ↔ Of M) where
  -- it refuses exactly when they carry none
  pub refuses_none : ((n : ℕ) × (v : ℕ) × (R ≡ refuse n v)) ↔ NoMessage Of
  refuses_none = (λ r f. refuse≢accept r.0 r.1 f.0 (sym r.2 ∙ (exactly f.0).1 f.1), refused R refl)
    where
      refused : (r : Res Message) → R ≡ r → NoMessage Of → (n : ℕ) × (v : ℕ) × (R ≡ refuse n v)
      refused (refuse n v) e none = (n, v, e)
      refused (accept M) e none = absurd (none (M, (exactly M).0 e))

  -- and what it accepts with is the only one
  pub accepts_only : (M : Message) → R ≡ accept M → Only Of M
  accepts_only M e = ((exactly M).0 e, λ N g. accept_inj N M (sym ((exactly N).1 g) ∙ e))

module _ (S : Suite) (L : Laws S) where
  -- a frame is read as what it carries, whatever its bytes
  pub frame_read : (M : Message) (l : List ℕ) → FrameOf S M l → read_of S l ≡ accept M
  frame_read M l f = ap (read_of S) (sym f.bytes) ∙ complete S L M f.filling f.legal

  -- accepted with a message exactly when it is a frame of that message
  pub accepts_exactly : (l : List ℕ) → Bytes l → (M : Message) → (read_of S l ≡ accept M) ↔ FrameOf S M l
  accepts_exactly l hb M = (λ e. let f = sound S L l hb M e in record { filling = f.0; legal = f.1; bytes = f.2 }, frame_read M l)

  -- the same of the outer call
  pub datagram_read : (M : Message) (d : List ℕ) → DatagramOf S M d → read_datagram_of S d ≡ accept M
  unfolding read_datagram_of
  datagram_read M d f =
      ap (read_datagram_of S) (sym f.bytes) ∙ then_accept (outer_of (outer ++ f.packet)) _ tt (outer_before f.packet) ∙ frame_read M f.packet f.frame

  pub datagram_exactly : (d : List ℕ) → Bytes d → (M : Message) → (read_datagram_of S d ≡ accept M) ↔ DatagramOf S M d
  unfolding read_datagram_of
  datagram_exactly d hb M = (
    λ e.
        let t = then_inv (outer_of d) _ M e in
        record {
          packet = drop 4 d;
          bytes = ap (λ (x : List ℕ). x ++ drop 4 d) (sym (outer_inv d t.0 t.1).1) ∙ take-append-drop 4 d;
          frame = (accepts_exactly (drop 4 d) (bytes_drop 4 d hb) M).0 t.2;
        },
    datagram_read M d,
  )
