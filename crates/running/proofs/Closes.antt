-- The hash's end: one block or two.
use Prim.Native.Nat.{ℕ, ◌+◌, ◌-◌, ◌*◌, ◌/◌, ◌%◌, ◌≤◌, ◌<◌}
use native.Mathlib.Omega.{arith}
use mathlib.Core.Path.{◌≡◌, refl, sym, ◌∙◌, ap, ap₂}
use mathlib.Core.List.{List, [], ◌∷◌, ◌++◌, append_assoc}
use lib.ListN.{length, take, drop, replicate, length-append, length-replicate, replicate-append-replicate}
use lib.Seq.{drop-length, length-take-le}
use Rattle.octets.specs.Number.{be}
use Rattle.octets.specs.Place.{filled, pasted}
use Rattle.running.specs.Hash.{Hash, plus, runs, zeros, pad}
use Rattle.running.specs.Running.{State, room, pending, closing, digest_of, count_of}
use Rattle.running.proofs.Promised.{coded}
use Rattle.running.proofs.Rooms.{length_room, take_room}
use Rattle.running.proofs.Blocks.{runs_two}

-- the last block, where the bytes that wait leave room for the length
closing_one : (p : List ℕ) (n : ℕ) → length p ≡ n % 64 → n % 64 < 56
    → p ++ pad n ≡ pasted (room (p ++ (0x80 ∷ []))) 56 (be 8 (n * 8))
unfolding pad pasted
closing_one p n e l =
    let x : List ℕ = p ++ (0x80 ∷ []) in
    let nx : length x ≡ n % 64 + 1 = length-append p (0x80 ∷ []) ∙ omega arith in
    let nr : length (room x) ≡ 64 = length_room x (omega arith) in
    let z : 56 - length x ≡ zeros n = omega arith in
    let d : drop 64 (room x) ≡ [] = ap (λ (i : ℕ). drop i (room x)) (sym nr) ∙ drop-length (room x) in
    let t : take 56 (room x) ≡ x ++ replicate (zeros n) 0 =
    take_room x 56 (omega arith) (omega arith) ∙ ap (λ (i : ℕ). x ++ replicate {A = ℕ} i 0) z in
    sym (ap₂ (λ (a b : List ℕ). a ++ (be 8 (n * 8) ++ b)) t d ∙ simp append_assoc)

-- the last two, where they do not
closing_two : (p : List ℕ) (n : ℕ) → length p ≡ n % 64 → 56 ≤ n % 64
    → p ++ pad n ≡ room (p ++ (0x80 ∷ [])) ++ pasted (replicate 64 0) 56 (be 8 (n * 8))
unfolding pad filled pasted
closing_two p n e l =
    let x : List ℕ = p ++ (0x80 ∷ []) in
    let nx : length x ≡ n % 64 + 1 = length-append p (0x80 ∷ []) ∙ omega arith in
    let z : 64 - length x + 56 ≡ zeros n = omega arith in
    sym (append_assoc x (replicate (64 - length x) 0) (replicate 56 0 ++ be 8 (n * 8))
    ∙ ap (λ (t : List ℕ). x ++ t) (sym (append_assoc (replicate (64 - length x) 0) (replicate 56 0) (be 8 (n * 8)))
    ∙ ap (λ (t : List ℕ). t ++ be 8 (n * 8)) (replicate-append-replicate {A = ℕ} (64 - length x) 56 0 ∙ ap (λ (i : ℕ). replicate {A = ℕ} i 0) z))
    ∙ append_assoc p (0x80 ∷ []) (replicate (zeros n) 0 ++ be 8 (n * 8)))

pub length-pad : (n : ℕ) → length (pad n) ≡ 9 + zeros n
unfolding pad
length-pad n =
    let e : length (replicate (zeros n) 0 ++ be 8 (n * 8)) ≡ zeros n + 8 =
    length-append (replicate (zeros n) 0) (be 8 (n * 8)) ∙ rw (length-replicate {A = ℕ} (zeros n) 0) refl in
    omega arith

module _ {C : Type 0} (H : Hash C) where
  pub close_one : (st : State C) (b l x : List ℕ) (h : C) → length st.buf ≡ 64 → st.len % 64 < 56
      → b ≡ room (take (st.len % 64) st.buf ++ (0x80 ∷ [])) → l ≡ pasted b 56 (be 8 (st.len * 8))
      → h ≡ runs H.compress (length l / 64) st.h l → x ≡ H.code h
      → ◌≡◌ {A = List ℕ × ℕ} (x, plus st.blocks 1) (digest_of H st, count_of st)
  unfolding closing digest_of count_of pending
  close_one st b l x h e m eb el eh ex =
      let p : List ℕ = take (st.len % 64) st.buf in
      let np : length p ≡ st.len % 64 = length-take-le (st.len % 64) st.buf (omega arith) in
      let f : l ≡ p ++ pad st.len = el ∙ ap (λ (t : List ℕ). pasted t 56 (be 8 (st.len * 8))) eb ∙ sym (closing_one p st.len np m) in
      let n : length (p ++ pad st.len) / 64 ≡ 1 = rw (length-append p (pad st.len), np, length-pad st.len) (omega arith) in
      coded (ex ∙ ap H.code (eh ∙ ap (λ (t : List ℕ). runs H.compress (length t / 64) st.h t) f)) (ap (plus st.blocks) (sym n))

  pub close_two : (st : State C) (b l x : List ℕ) (g h : C) → length st.buf ≡ 64 → 56 ≤ st.len % 64
      → b ≡ room (take (st.len % 64) st.buf ++ (0x80 ∷ [])) → l ≡ pasted (replicate 64 0) 56 (be 8 (st.len * 8))
      → g ≡ runs H.compress (length b / 64) st.h b → h ≡ runs H.compress (length l / 64) g l → x ≡ H.code h
      → ◌≡◌ {A = List ℕ × ℕ} (x, plus st.blocks 2) (digest_of H st, count_of st)
  unfolding closing digest_of count_of pending pasted
  close_two st b l x g h e m eb el eg eh ex =
      let p : List ℕ = take (st.len % 64) st.buf in
      let np : length p ≡ st.len % 64 = length-take-le (st.len % 64) st.buf (omega arith) in
      let nb : length b ≡ 64 = ap length eb ∙ length_room (p ++ (0x80 ∷ [])) (rw (length-append p (0x80 ∷ []), np) (omega arith)) in
      let nl : length l ≡ 64 = ap length el in
      let f : b ++ l ≡ p ++ pad st.len = ap₂ (λ (x y : List ℕ). x ++ y) eb el ∙ sym (closing_two p st.len np m) in
      let n : length (p ++ pad st.len) / 64 ≡ 2 = rw (length-append p (pad st.len), np, length-pad st.len) (omega arith) in
      let k : h ≡ runs H.compress 2 st.h (b ++ l) = eh ∙ rw (nl, eg, nb) (runs_two H.compress st.h b l nb) in
      let j : runs H.compress 2 st.h (b ++ l) ≡ runs H.compress (length (p ++ pad st.len) / 64) st.h (p ++ pad st.len) =
      ap₂ (λ (i : ℕ) (t : List ℕ). runs H.compress i st.h t) (sym n) f in
      coded (ex ∙ ap H.code (k ∙ j)) (ap (plus st.blocks) (sym n))
