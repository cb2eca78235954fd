-- One law for a turn of each loop of the block function, and what a running hash asks of SHA-1.
use Rattle.std.proofs.Common.{◌≡◌, ℕ, suc, ◌+◌, ◌-◌, ◌*◌, ◌<◌, ◌≤◌, List, [], ◌++◌, length, get_or, take, drop, set, refl, ap, ◌∙◌, add-one, arith, get_or-take, take-suc-set}
use lib.Seq.{drop-drop, get_or-drop}
use Rattle.std.specs.Prelude.{zero, fold}
use Rattle.std.specs.Simd.{first_chunks}
use Rattle.octets.specs.Bytes.{Bytes}
use Rattle.octets.specs.Number.{be}
use Rattle.octets.proofs.Bytes.{bytes_append}
use Rattle.octets.proofs.Number.{bytes_be}
use Rattle.running.specs.Hash.{Sized, runs}
use Rattle.sha1_block.specs.Word.{word}
use Rattle.sha1_block.specs.Block.{words, next, more, schedule, round, rounds, added, compress, bytes_of, sha1_hash}
use Rattle.sha1_block.specs.Turns.{turns}
use Rattle.sha1_block.specs.declared.Chain.{Chain}

chunk_at : (n k i : ℕ) (m d : List ℕ) → i < k → get_or (first_chunks n k m) i d ≡ take n (drop (i * n) m)
chunk_at n zero i m d l = absurd (omega arith)
chunk_at n (suc k) zero m d l = let e : 0 * n ≡ 0 = omega arith in rw e refl
chunk_at n (suc k) (suc i) m d l =
    let e : n + i * n ≡ suc i * n = omega arith in
    chunk_at n k i (drop n m) d (omega arith) ∙ ap (take n) (drop-drop (i * n) n m ∙ ap (λ (j : ℕ). drop j m) e)

-- a word is the four bytes that begin with its first
word_of : (m : List ℕ) (i : ℕ) → word (take 4 (drop i m)) 0 ≡ word m i
word_of m i =
    let e : i + 0 ≡ i = omega arith in
    rw (
      get_or-take 4 (drop i m) 0 0 (omega arith),
      get_or-take 4 (drop i m) 1 0 (omega arith),
      get_or-take 4 (drop i m) 2 0 (omega arith),
      get_or-take 4 (drop i m) 3 0 (omega arith),
      get_or-drop i m 0 0,
      get_or-drop i m 1 0,
      get_or-drop i m 2 0,
      get_or-drop i m 3 0,
      e,
    ) refl

pub words_more : (w m : List ℕ) (fours : List (List ℕ)) (t k x : ℕ) → t < length w → take t w ≡ words t m → fours ≡ first_chunks 4 k m → t < k
    → x ≡ word (get_or fours t []) 0 → take (t + 1) (set w t x) ≡ words (t + 1) m
unfolding words
words_more w m fours t k x h e b l p =
    let f : x ≡ word m (t * 4) = p ∙ rw (b, chunk_at 4 k t m [] l) (word_of m (t * 4)) in
    rw (add-one, take-suc-set w t x h, e, f) refl

-- W_t looks only at words before t
next_take : (w : List ℕ) (t : ℕ) → 16 ≤ t → next (take t w) t ≡ next w t
next_take w t l =
    let l₃ : t - 3 < t = omega arith in
    let l₈ : t - 8 < t = omega arith in
    let l₁₄ : t - 14 < t = omega arith in
    let l₁₆ : t - 16 < t = omega arith in
    rw (get_or-take t w (t - 3) 0 l₃, get_or-take t w (t - 8) 0 l₈, get_or-take t w (t - 14) 0 l₁₄, get_or-take t w (t - 16) 0 l₁₆)

pub more-more : (w v : List ℕ) (t x : ℕ) → t < length w → 16 ≤ t → take t w ≡ more (t - 16) v → x ≡ next w t
    → take (t + 1) (set w t x) ≡ more (t + 1 - 16) v
unfolding more
more-more w v t x h l e p =
    let e₁ : t + 1 - 16 ≡ suc (t - 16) = omega arith in
    let e₂ : 16 + (t - 16) ≡ t = omega arith in
    rw (e₁, add-one, take-suc-set w t x h, e₂, ← e, next_take w t l, p)

pub turns_more : (s t x : ℕ) (w : List ℕ) (h v u : Chain) → v ≡ turns s t w h → x ≡ get_or w (s + t) 0 → u ≡ round (s + t) x v
    → u ≡ turns s (t + 1) w h
unfolding turns
turns_more s t x w h v u e f p = rw (add-one, ← e, ← f) p

-- four runs of twenty are the eighty
pub four_runs : (w : List ℕ) (h : Chain) → turns 60 20 w (turns 40 20 w (turns 20 20 w (turns 0 20 w h))) ≡ rounds 80 w h
unfolding turns rounds
four_runs w h = refl

-- what the rounds start from and end with, put together
pub whole : (h v₁ v₂ v₃ v₄ r : Chain) (w m : List ℕ) → w ≡ schedule m → v₁ ≡ turns 0 20 w h → v₂ ≡ turns 20 20 w v₁
    → v₃ ≡ turns 40 20 w v₂ → v₄ ≡ turns 60 20 w v₃ → r ≡ added h v₄ → r ≡ compress h m
unfolding compress
whole h v₁ v₂ v₃ v₄ r w m s p₁ p₂ p₃ p₄ e =
    let f : v₄ ≡ rounds 80 w h = p₄ ∙ rw (p₃, p₂, p₁) (four_runs w h) in
    e ∙ rw (f, s)

-- the blocks one after another are a run of them
pub runs_fold : (k : ℕ) (h : Chain) (m : List ℕ) → fold compress h (first_chunks 64 k m) ≡ runs compress k h m
unfolding runs
runs_fold zero h m = refl
runs_fold (suc k) h m = runs_fold k (compress h (take 64 m)) (drop 64 m)

bytes_twenty : (h : Chain) → Bytes (bytes_of h)
bytes_twenty h =
    bytes_append (be 4 h.a ++ be 4 h.b ++ be 4 h.c ++ be 4 h.d) (be 4 h.e)
    (bytes_append (be 4 h.a ++ be 4 h.b ++ be 4 h.c) (be 4 h.d)
    (bytes_append (be 4 h.a ++ be 4 h.b) (be 4 h.c)
    (bytes_append (be 4 h.a) (be 4 h.b) (bytes_be 4 h.a) (bytes_be 4 h.b)) (bytes_be 4 h.c)) (bytes_be 4 h.d))
    (bytes_be 4 h.e)

-- what the laws of a running hash ask of SHA-1
pub sha1_sized : Sized sha1_hash
unfolding sha1_hash
sha1_sized = record { long = λ c. refl; short = omega arith; bytes = bytes_twenty }
