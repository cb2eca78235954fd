-- What the HMAC functions make of states: one law for each return, and the running HMAC in sequence.
use Prim.Native.Nat.{ℕ, ◌+◌, ◌/◌, ◌^◌, ◌≤◌, ◌<◌}
use native.Mathlib.Omega.{arith}
use mathlib.Core.Bool.{Bool, true, false, cond}
use mathlib.Core.Path.{◌≡◌, refl, sym, ◌∙◌, ap, ap₂}
use mathlib.Core.List.{List, [], ◌++◌, append_assoc, append-nil}
use lib.ListN.{length, drop, replicate, length-append}
use lib.Seq.{drop-length}
use lib.Dec.{leb}
use Rattle.octets.specs.Place.{filled}
use Rattle.hmac.specs.Hmac.{xored, inner, outer}
use Rattle.hmac.specs.Count.{key_count, hmac_count, ceiling}
use Rattle.hmac.proofs.Keyed.{length-xored, key_length, key_short, key_long, inner_length, outer_length}
use Rattle.hmac.proofs.Counted.{key_count_short, key_count_long}
use Rattle.hmac.proofs.Nested.{nested}
use Rattle.running.specs.Hash.{Hash, Sized, plus, runs, pad, padded, block_count, digest}
use Rattle.running.specs.Running.{State, room, closing, taken, digest_of, count_of, after}
use Rattle.running.specs.Mac.{MacState, hmac_of, hmac_blocks_of, key_block_of, key_blocks_of, inner_of}
use Rattle.running.specs.Mac.{mac_after, mac_taken, mac_running, mac_digest, mac_count}
use Rattle.running.specs.Promise.{limit}
use Rattle.running.proofs.Promised.{coded}
use Rattle.running.proofs.Blocks.{runs_two}
use Rattle.running.proofs.Takes.{taken_after, after_taken}
use Rattle.running.proofs.Sizes.{block_count-ceiling, last_one, digest-length, fits}
use Rattle.running.proofs.Ends.{digest_after, count_after}

module _ {C : Type 0} (H : Hash C) (ok : Sized H) where
  -- the key's block and its count, by the key's length
  pub key_block_short : (k b : List ℕ) → length k ≤ 64 → b ≡ room k → (b ≡ key_block_of H k) × (0 ≡ key_blocks_of H k)
  key_block_short k b l e = (e ∙ sym (key_short (digest H) 64 k l), sym (key_count_short (digest H) 64 block_count k l))

  pub key_block_long : (k b d : List ℕ) (x y : State C) (n : ℕ) → 64 < length k → length k ≤ limit → x ≡ after H [] → y ≡ taken H x k
      → ◌≡◌ {A = List ℕ × ℕ} (d, n) (digest_of H y, count_of y) → b ≡ room d → (b ≡ key_block_of H k) × (n ≡ key_blocks_of H k)
  key_block_long k b d x y n l m e f p g =
      let z : y ≡ after H k = f ∙ ap (λ (t : State C). taken H t k) e ∙ after_taken H k (omega arith) in
      let c : d ≡ digest H k = (λ i. (p i).0) ∙ ap (digest_of H) z ∙ digest_after H k in (
        g ∙ ap room c ∙ sym (key_long (digest H) 64 k l),
        (λ i. (p i).1) ∙ ap count_of z ∙ count_after H k (omega arith) ∙ sym (key_count_long (digest H) 64 block_count k l),
      )

  -- sizes: the key's block xored with a byte, and what the inner hash is given
  mask_size : (x : ℕ) (k : List ℕ) → length (xored x (key_block_of H k)) ≡ 64
  mask_size x k = length-xored x (key_block_of H k) ∙ key_length (digest H) 64 H.size (digest-length H ok) (fits H ok) k

  inner_size : (k m : List ℕ) → length (inner_of H k m) ≡ 64 + length m
  inner_size k m = inner_length (digest H) 64 H.size (digest-length H ok) (fits H ok) k m

  -- a code has the hash's length
  pub digest_of-length : (st : State C) → length (digest_of H st) ≡ H.size
  unfolding digest_of
  digest_of-length st = ok.long (runs H.compress (length (closing st) / 64) st.h (closing st))

  -- a whole block as a slice's blocks
  one_block : (h u g : C) (l : List ℕ) → length l ≡ 64 → u ≡ h → g ≡ runs H.compress (length l / 64) u l → g ≡ runs H.compress 1 h l
  one_block h u g l n eu eg = rw (n, eu) at eg

  -- the state after one block
  after_block : (l : List ℕ) (h : C) → length l ≡ 64 → h ≡ runs H.compress 1 H.first l
      → ◌≡◌ {A = State C} (record { h = h; buf = replicate 64 0; len = 64; blocks = 1 }) (after H l)
  unfolding after filled
  after_block l h n e =
      let u : drop 64 l ≡ [] = ap (λ (i : ℕ). drop i l) (sym n) ∙ drop-length l in
      rw n (λ i. record { h = e i; buf = sym (ap room u) i; len = 64; blocks = 1 })

  -- the state after the key
  pub begin_law : (k kb ip op : List ℕ) (u v g h : C) (n : ℕ) → kb ≡ key_block_of H k → n ≡ key_blocks_of H k
      → ip ≡ xored 0x36 kb → op ≡ xored 0x5c kb → u ≡ H.first → g ≡ runs H.compress (length ip / 64) u ip
      → v ≡ H.first → h ≡ runs H.compress (length op / 64) v op
      → ◌≡◌ {A = MacState C}
      (record { inner = record { h = g; buf = replicate 64 0; len = 64; blocks = 1 }; outer = h; blocks = plus n 1 })
      (mac_after H k [])
  unfolding mac_after inner
  begin_law k kb ip op u v g h n ek en ei eo eu eg ev eh =
      let fi : ip ≡ xored 0x36 (key_block_of H k) = ei ∙ ap (xored 0x36) ek in
      let fo : op ≡ xored 0x5c (key_block_of H k) = eo ∙ ap (xored 0x5c) ek in
      let ni : length ip ≡ 64 = ap length fi ∙ mask_size 0x36 k in
      let no : length op ≡ 64 = ap length fo ∙ mask_size 0x5c k in
      let a = after_block ip g ni (one_block H.first u g ip ni eu eg) ∙ ap (after H) (fi ∙ sym (append-nil _)) in
      let b : h ≡ runs H.compress 1 H.first (xored 0x5c (key_block_of H k)) =
      one_block H.first v h op no ev eh ∙ ap (runs H.compress 1 H.first) fo in
      λ i. record { inner = a i; outer = b i; blocks = plus (en i) 1 }

  -- the outer hash's last block behind its chaining value h
  abbrev last : C → List ℕ → List ℕ
  last h d = H.code (runs H.compress 1 h (d ++ pad (64 + H.size)))

  -- the outer hash: its key block o, then a code d
  outer_law : (o d : List ℕ) → length o ≡ 64 → length d ≡ H.size → last (runs H.compress 1 H.first o) d ≡ digest H (o ++ d)
  unfolding digest block_count padded
  outer_law o d lo ld =
      let x : List ℕ = d ++ pad (64 + H.size) in
      let n : length (o ++ d) ≡ 64 + H.size = length-append o d ∙ omega arith in
      let f : (o ++ d) ++ pad (length (o ++ d)) ≡ o ++ x = rw n (append_assoc o d (pad (64 + H.size))) in
      let c : block_count (o ++ d) ≡ 2 = block_count-ceiling (o ++ d) ∙ rw n (omega (arith, ok.short)) in
      ap H.code
      (runs_two H.compress H.first o x lo ∙ ap₂ (λ (i : ℕ) (t : List ℕ). runs H.compress i H.first t) (sym c) (sym f))

  -- the code of a state
  pub mac_digest_after : (k m : List ℕ) → mac_digest H (mac_after H k m) ≡ hmac_of H k m
  unfolding mac_digest mac_after
  mac_digest_after k m =
      nested (digest H) 64 (after H) (digest_of H) (runs H.compress 1 H.first) last k m _ _ refl refl (digest_after H (inner_of H k m))
      (outer_law (xored 0x5c (key_block_of H k)) (digest H (inner_of H k m)) (mask_size 0x5c k) (digest-length H ok (inner_of H k m)))

  key_count_most : (k : List ℕ) → length k ≤ limit → key_blocks_of H k ≤ ceiling (limit + 9) 64
  unfolding key_count
  key_count_most k l = most (leb (length k) 64) (block_count k) (omega (arith, block_count-ceiling k))
    where
      most : (b : Bool) (n : ℕ) → n ≤ ceiling (limit + 9) 64 → cond b 0 n ≤ ceiling (limit + 9) 64
      most true n h = omega arith
      most false n h = h

  -- sums that do not wrap
  sums : (a b c n : ℕ) → a + b + 2 ≡ n → n < 2 ^ 32 → c ≡ b → plus (plus (plus a 1) c) 1 ≡ n
  sums a b c n e l f = omega arith

  -- the count of a state
  pub mac_count_after : (k m : List ℕ) → length k ≤ limit → length m ≤ limit → mac_count (mac_after H k m) ≡ hmac_blocks_of H k m
  unfolding mac_count mac_after hmac_count
  mac_count_after k m lk lm =
      let i : List ℕ = inner_of H k m in
      let o : List ℕ = outer (digest H) 64 k m in
      let ni : length i ≡ 64 + length m = inner_size k m in
      let no : length o ≡ 64 + H.size = outer_length (digest H) 64 H.size (digest-length H ok) (fits H ok) k m in
      let co : block_count o ≡ 2 = block_count-ceiling o ∙ rw no (omega (arith, ok.short)) in
      let ci : block_count i ≡ ceiling (length i + 9) 64 = block_count-ceiling i in
      let ck : key_blocks_of H k ≤ ceiling (limit + 9) 64 = key_count_most k lk in
      sums (key_blocks_of H k) (block_count i) (count_of (after H i)) (key_blocks_of H k + block_count i + block_count o)
      (rw co refl) (omega arith) (count_after H i (omega arith))

  -- a piece more
  pub mac_taken_after : (k m s : List ℕ) → length m + length s ≤ limit → mac_taken H (mac_after H k m) s ≡ mac_after H k (m ++ s)
  unfolding mac_taken mac_after inner
  mac_taken_after k m s l =
      let b : List ℕ = xored 0x36 (key_block_of H k) in
      let nb : length b ≡ 64 = mask_size 0x36 k in
      let h : length (b ++ m) + length s < 2 ^ 32 = rw (length-append b m) (omega arith) in
      let e : taken H (after H (b ++ m)) s ≡ after H (b ++ (m ++ s)) = taken_after H (b ++ m) s h ∙ ap (after H) (append_assoc b m s) in
      λ i. record { inner = e i; outer = (mac_after H k m).outer; blocks = (mac_after H k m).blocks }

  -- the bytes that the inner hash of a state was given
  pub mac_len_after : (k m : List ℕ) → (mac_after H k m).inner.len ≡ 64 + length m
  unfolding mac_after after
  mac_len_after k m = inner_size k m

  -- a running HMAC tells the key's blocks, the two key blocks and the floor of n / 64
  pub mac_running_after : (k m : List ℕ) → length k ≤ limit → length m ≤ limit
      → mac_running (mac_after H k m) ≡ key_blocks_of H k + 2 + length m / 64
  unfolding mac_running mac_after after
  mac_running_after k m lk lm =
      let ni : length (inner_of H k m) ≡ 64 + length m = inner_size k m in
      let ck : key_blocks_of H k ≤ ceiling (limit + 9) 64 = key_count_most k lk in
      omega arith

  -- a state after a piece, by its parts
  pub mac_absorb_law : (st : MacState C) (s : List ℕ) (x : State C) → x ≡ taken H st.inner s
      → ◌≡◌ {A = MacState C} (record { inner = x; outer = st.outer; blocks = st.blocks }) (mac_taken H st s)
  unfolding mac_taken
  mac_absorb_law st s x e = λ i. record { inner = e i; outer = st.outer; blocks = st.blocks }

  -- the end of a state: the inner code in the outer hash's last block
  pub mac_close_law : (st : MacState C) (d l x : List ℕ) (h : C) (i : ℕ)
      → ◌≡◌ {A = List ℕ × ℕ} (d, i) (digest_of H st.inner, count_of st.inner)
      → l ≡ d ++ pad (64 + H.size) → h ≡ runs H.compress (length l / 64) st.outer l → x ≡ H.code h
      → ◌≡◌ {A = List ℕ × ℕ} (x, plus (plus st.blocks i) 1) (mac_digest H st, mac_count st)
  unfolding mac_digest mac_count
  mac_close_law st d l x h i p el eh ex =
      let f : l ≡ digest_of H st.inner ++ pad (64 + H.size) = el ∙ ap (λ (t : List ℕ × ℕ). t.0 ++ pad (64 + H.size)) p in
      let m : length l / 64 ≡ 1 =
      ap (λ (t : List ℕ). length t / 64) f ∙ last_one (digest_of H st.inner) H.size (digest_of-length st.inner) ok.short in
      coded (ex ∙ ap H.code (eh ∙ ap₂ (λ (j : ℕ) (t : List ℕ). runs H.compress j st.outer t) m f))
      (ap (λ (t : List ℕ × ℕ). plus (plus st.blocks t.1) 1) p)
