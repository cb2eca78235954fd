-- What a piece makes of a state: one law for each way the code goes, and that two pieces are their joined bytes.
use Prim.Native.Nat.{ℕ, ◌+◌, ◌-◌, ◌*◌, ◌/◌, ◌%◌, ◌^◌, ◌≤◌, ◌<◌}
use native.Mathlib.Omega.{arith}
use mathlib.Core.Path.{◌≡◌, refl, sym, ◌∙◌, ap, ap₂}
use mathlib.Core.List.{List, [], ◌++◌, append_assoc}
use lib.ListN.{length, take, drop, replicate, length-append, length-drop, take-append-drop}
use lib.Seq.{take_all, drop-drop, drop-append-le, length-take-le}
use Rattle.octets.specs.Place.{filled}
use Rattle.running.specs.Hash.{Hash, plus, runs}
use Rattle.running.specs.Running.{State, room, pending, absorb, taken, after}
use Rattle.running.proofs.Rooms.{room_back, room_full}
use Rattle.running.proofs.Blocks.{runs_on}

module _ {C : Type 0} (H : Hash C) where
  length-pending : (st : State C) → length st.buf ≡ 64 → length (pending st) ≡ st.len % 64
  unfolding pending
  length-pending st e = length-take-le (st.len % 64) st.buf (omega arith)

  -- a state by its parts, q the number of whole blocks
  absorb_is : (st : State C) (n q : ℕ) (l : List ℕ) (h : C) (b : List ℕ) (len k : ℕ) → length l / 64 ≡ q
      → h ≡ runs H.compress q st.h l → b ≡ room (drop (q * 64) l) → len ≡ plus st.len n → k ≡ plus st.blocks q
      → ◌≡◌ {A = State C} (record { h = h; buf = b; len = len; blocks = k }) (absorb H st n l)
  unfolding absorb
  absorb_is st n q l h b len k e eh eb el ek =
      let f : (i : ℕ) → i ≡ q → ◌≡◌ {A = State C} (record { h = h; buf = b; len = len; blocks = k })
      (record { h = runs H.compress i st.h l; buf = room (drop (i * 64) l); len = plus st.len n; blocks = plus st.blocks i }) =
      (λ i g. rw g (λ j. record { h = eh j; buf = eb j; len = el j; blocks = ek j })) in
      f (length l / 64) e

  pub append_law : (st : State C) (s b : List ℕ) → length st.buf ≡ 64 → st.blocks < 2 ^ 32 → st.len % 64 + length s < 64
      → b ≡ room (take (st.len % 64) st.buf ++ s)
      → ◌≡◌ {A = State C} (record { h = st.h; buf = b; len = plus st.len (length s); blocks = st.blocks }) (taken H st s)
  unfolding taken pending runs
  append_law st s b e k l eb =
      let n : length (take (st.len % 64) st.buf ++ s) ≡ st.len % 64 + length s =
      length-append (take (st.len % 64) st.buf) s ∙ rw (length-take-le (st.len % 64) st.buf (omega arith)) in
      absorb_is st (length s) 0 (take (st.len % 64) st.buf ++ s) st.h b _ st.blocks (rw n (omega arith)) refl eb refl (omega arith)

  pub complete_block_law : (st : State C) (s b : List ℕ) (h : C) → length st.buf ≡ 64 → st.len % 64 + length s ≡ 64
      → b ≡ room (take (st.len % 64) st.buf ++ s) → h ≡ runs H.compress (length b / 64) st.h b
      → ◌≡◌ {A = State C} (record { h = h; buf = replicate 64 0; len = plus st.len (length s); blocks = plus st.blocks 1 }) (taken H st s)
  unfolding taken pending filled
  complete_block_law st s b h e l eb eh =
      let p : List ℕ = take (st.len % 64) st.buf ++ s in
      let n : length p ≡ 64 =
      length-append (take (st.len % 64) st.buf) s ∙ rw (length-take-le (st.len % 64) st.buf (omega arith)) l in
      let f : b ≡ p = eb ∙ room_full p n in
      let m : length b / 64 ≡ 1 = rw (f, n) refl in
      let d : replicate 64 0 ≡ room (drop 64 p) = sym (ap room (drop_all p n)) in
      absorb_is st (length s) 1 p h (replicate 64 0) _ _ (rw n refl) (eh ∙ ap₂ (λ (i : ℕ) (x : List ℕ). runs H.compress i st.h x) m f) d refl refl
    where
      drop_all : (p : List ℕ) → length p ≡ 64 → drop 64 p ≡ []
      drop_all p e = ap (λ (i : ℕ). drop i p) (sym e) ∙ lib.Seq.drop-length p

  pub absorb_blocks_law : (st : State C) (s b : List ℕ) (h : C) → st.len % 64 ≡ 0
      → b ≡ room (take (length s - length s / 64 * 64) (drop (length s / 64 * 64) s)) → h ≡ runs H.compress (length s / 64) st.h s
      → ◌≡◌ {A = State C} (record { h = h; buf = b; len = plus st.len (length s); blocks = plus st.blocks (length s / 64) }) (taken H st s)
  unfolding taken pending
  absorb_blocks_law st s b h z eb eh =
      let t : take (length s - length s / 64 * 64) (drop (length s / 64 * 64) s) ≡ drop (length s / 64 * 64) s =
      take_all (length s - length s / 64 * 64) (drop (length s / 64 * 64) s) (rw (length-drop (length s / 64 * 64) s) (omega arith)) in
      rw z (absorb_is st (length s) (length s / 64) s h b _ _ refl eh (eb ∙ ap room t) refl refl)

  -- what a buffer's state has waiting
  pub waits : (h : C) (p : List ℕ) (len k : ℕ) → len % 64 ≡ length p → pending (record { h = h; buf = room p; len = len; blocks = k }) ≡ p
  unfolding pending
  waits h p len k e = rw e (room_back p)

  -- what waits after a piece
  pending_taken : (st : State C) (s : List ℕ) → length st.buf ≡ 64
      → pending (taken H st s) ≡ drop (length (pending st ++ s) / 64 * 64) (pending st ++ s)
  unfolding taken absorb
  pending_taken st s e =
      let l : List ℕ = pending st ++ s in
      let n : length l ≡ st.len % 64 + length s = length-append (pending st) s ∙ rw (length-pending st e) in
      let m : plus st.len (length s) % 64 ≡ length (drop (length l / 64 * 64) l) =
      rw (length-drop (length l / 64 * 64) l) (omega arith) in
      waits (runs H.compress (length l / 64) st.h l) (drop (length l / 64 * 64) l) (plus st.len (length s)) (plus st.blocks (length l / 64)) m

  -- two absorptions, the second with what the first left waiting
  absorb-absorb : (st : State C) (n k : ℕ) (l b : List ℕ)
      → absorb H (absorb H st n l) k (drop (length l / 64 * 64) l ++ b) ≡ absorb H st (n + k) (l ++ b)
  unfolding absorb
  absorb-absorb st n k l b =
      let q : ℕ = length l / 64 in
      let r : List ℕ = drop (q * 64) l ++ b in
      let j : ℕ = length r / 64 in
      let m : q * 64 ≤ length l = omega arith in
      let nr : length r ≡ length l - q * 64 + length b = length-append (drop (q * 64) l) b ∙ rw (length-drop (q * 64) l) in
      let nl : length (l ++ b) ≡ length l + length b = length-append l b in
      let e : length (l ++ b) / 64 ≡ q + j = omega arith in
      let i : q * 64 + j * 64 ≡ (q + j) * 64 = omega arith in
      let d : drop (j * 64) r ≡ drop ((q + j) * 64) (l ++ b) =
      ap (drop (j * 64)) (sym (drop-append-le (q * 64) l b m)) ∙ drop-drop (j * 64) (q * 64) (l ++ b)
      ∙ ap (λ (k : ℕ). drop k (l ++ b)) i in
      absorb_is st (n + k) (q + j) (l ++ b) (runs H.compress j (runs H.compress q st.h l) r) (room (drop (j * 64) r)) (plus (plus st.len n) k)
      (plus (plus st.blocks q) j) e (runs_on H.compress st.h l b q j m) (ap room d) (omega arith) (omega arith)

  taken_is : (st : State C) (s : List ℕ) → taken H st s ≡ absorb H st (length s) (pending st ++ s)
  unfolding taken
  taken_is st s = refl

  -- two pieces are their joined bytes
  taken_taken : (st : State C) (a b : List ℕ) → length st.buf ≡ 64 → taken H (taken H st a) b ≡ taken H st (a ++ b)
  taken_taken st a b e =
      let l : List ℕ = pending st ++ a in
      taken_is (taken H st a) b
      ∙ rw (pending_taken st a e)
      (ap (λ (x : State C). absorb H x (length b) (drop (length l / 64 * 64) l ++ b)) (taken_is st a)
      ∙ absorb-absorb st (length a) (length b) l b
      ∙ ap₂ (absorb H st) (sym (length-append a b)) (append_assoc (pending st) a b))
      ∙ sym (taken_is st (a ++ b))

  -- the last way of the code: the block that waits is filled up, the rest follows
  pub absorb_law : (st x r : State C) (s : List ℕ) (n : ℕ) → length st.buf ≡ 64 → x ≡ taken H st (take n s)
      → r ≡ taken H x (take (length s - n) (drop n s)) → r ≡ taken H st s
  absorb_law st x r s n e f g =
      let t : take (length s - n) (drop n s) ≡ drop n s = take_all (length s - n) (drop n s) (rw (length-drop n s) (omega arith)) in
      g ∙ ap₂ (taken H) f t ∙ taken_taken st (take n s) (drop n s) e ∙ ap (taken H st) (take-append-drop n s)

  -- all of a message at once
  pub after_taken : (m : List ℕ) → length m < 2 ^ 32 → taken H (after H []) m ≡ after H m
  unfolding taken absorb pending after runs
  after_taken m l =
      let e : plus 0 (length m) ≡ length m = omega arith in
      let f : plus 0 (length m / 64) ≡ length m / 64 = omega arith in
      rw (e, f)

  first_length : length (after H []).buf ≡ 64
  unfolding after filled
  first_length = refl

  -- a piece more
  pub taken_after : (m s : List ℕ) → length m + length s < 2 ^ 32 → taken H (after H m) s ≡ after H (m ++ s)
  taken_after m s l =
      let lm : length m < 2 ^ 32 = omega arith in
      let ls : length (m ++ s) < 2 ^ 32 = rw (length-append m s) l in
      ap (λ (x : State C). taken H x s) (sym (after_taken m lm)) ∙ taken_taken (after H []) m s first_length ∙ after_taken (m ++ s) ls

  -- a state that was filled up has nothing waiting
  pub complete_none_waits : (st x : State C) (s : List ℕ) → st.len % 64 + length s ≡ 64 → x ≡ taken H st s → x.len % 64 ≡ 0
  unfolding taken absorb
  complete_none_waits st x s e f = ap (λ (y : State C). y.len % 64) f ∙ omega arith
