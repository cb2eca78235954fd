-- The trailer, one law for each way out of it: the premises are the tests as the code makes them.
use Prim.Native.Nat.{ℕ, ◌+◌, ◌-◌, ◌≤◌, ◌<◌}
use native.Mathlib.Omega.{arith}
use mathlib.Core.Bool.{Bool, true, false}
use mathlib.Core.List.{List}
use mathlib.Core.Path.{◌≡◌, sym, ◌∙◌, ap}
use lib.ListN.{length, get_or, take, drop}
use borrow.Author.Tests.{le-leb, lt-leb, eq-eqb, ne_eqb}
use Rattle.refusal.specs.Order.{Res, refuse, accept}
use Rattle.refusal.proofs.Order.{pass, need_no, need_inv, accept_inj}
use Rattle.octets.specs.Equal.{same}
use Rattle.octets.proofs.Place.{to_end}
use Rattle.framing.specs.Suite.{Suite}
use Rattle.framing.specs.Read.{coverage, trailer_of, before_trailer}
use Rattle.octets.proofs.Order.{by_cases, cond_true, cond_false}

module _ (S : Suite) (code l : List ℕ) (m : ℕ) (em : m ≡ S.m) where
  abbrev k : ℕ
  k = length l - m

  cover : k ≡ coverage S l
  cover = omega arith

  pub trailer_6 : length l < m → refuse 6 0 ≡ trailer_of S code l
  unfolding trailer_of
  trailer_6 h = let g : length l < S.m = omega arith in sym (need_no _ _ _ _ (lt-leb _ _ g))

  module _ (h : m ≤ length l) (b : Bool) (e : b ≡ same (take (length l - (length l - m)) (drop (length l - m) l)) code) where
    long : S.m ≤ length l
    long = omega arith

    compared : (t : Bool) → b ≡ t → same (drop (coverage S l) l) code ≡ t
    compared t f = ap (λ (j : ℕ). same (drop j l) code) (sym cover) ∙ ap (λ (x : List ℕ). same x code) (sym (to_end (length l) k l (omega arith))) ∙ sym e ∙ f

    pub trailer_7 : b ≡ false → refuse 7 0 ≡ trailer_of S code l
    unfolding trailer_of
    trailer_7 f = sym (pass _ _ _ _ (le-leb _ _ long) (need_no _ _ _ _ (compared false f)))

    module _ (f : b ≡ true) where
      pub trailer_short : length l - m < 2 → refuse 6 0 ≡ trailer_of S code l
      unfolding trailer_of
      trailer_short g =
          let few : length l < S.m + 2 = omega arith in
          sym (pass _ _ _ _ (le-leb _ _ long) (pass _ _ _ _ (compared true f) (need_no _ _ _ _ (lt-leb _ _ few))))

      module _ (g : 2 ≤ length l - m) where
        enough : S.m + 2 ≤ length l
        enough = omega arith

        next : get_or l (k - 1) 0 ≡ get_or l (coverage S l - 1) 0
        next = ap (λ (j : ℕ). get_or l (j - 1) 0) cover

        pub trailer_8 : (get_or l (length l - m - 1) 0 ≡ 0x07 → ⊥) → refuse 8 (get_or l (length l - m - 1) 0) ≡ trailer_of S code l
        unfolding trailer_of
        trailer_8 d =
            ap (refuse 8) next
            ∙ sym (pass _ _ _ _ (le-leb _ _ long)
            (pass _ _ _ _ (compared true f) (pass _ _ _ _ (le-leb _ _ enough) (need_no _ _ _ _ (ne_eqb _ _ (λ x. d (next ∙ x)))))))

        pub trailer_done : get_or l (length l - m - 1) 0 ≡ 0x07 → (q n : ℕ) → q ≡ get_or l (length l - m - 2) 0 → n ≡ length l - m - 2 - q
            → accept n ≡ trailer_of S code l
        unfolding trailer_of
        trailer_done d q n hq hn =
            let count : q ≡ get_or l (coverage S l - 2) 0 = hq ∙ ap (λ (j : ℕ). get_or l (j - 2) 0) cover in
            let left : n ≡ coverage S l - 2 - get_or l (coverage S l - 2) 0 = omega (arith, cover) in
            sym (pass _ _ _ _ (le-leb _ _ long)
            (pass _ _ _ _ (compared true f) (pass _ _ _ _ (le-leb _ _ enough) (pass _ _ _ _ (eq-eqb _ _ (sym next ∙ d)) (ap accept (sym left))))))

-- with integrity, and without
module _ (S : Suite) (code l : List ℕ) where
  pub before_bare : S.auth ≡ false → accept (length l) ≡ before_trailer S code l
  unfolding before_trailer
  before_bare e = sym (cond_false S.auth (trailer_of S code l) (accept (length l)) e)

  pub before_auth : S.auth ≡ true → (r : Res ℕ) → r ≡ trailer_of S code l → r ≡ before_trailer S code l
  unfolding before_trailer
  before_auth e r f = f ∙ sym (cond_true S.auth (trailer_of S code l) (accept (length l)) e)

  -- what is left is no more than there is
  trailer_left : (n : ℕ) → trailer_of S code l ≡ accept n → n ≤ length l
  unfolding trailer_of
  trailer_left n e =
      let t1 = need_inv _ _ _ _ e in
      let t2 = need_inv _ _ _ _ t1.1 in
      let t3 = need_inv _ _ _ _ t2.1 in
      let t4 = need_inv _ _ _ _ t3.1 in
      omega (arith, accept_inj _ _ t4.1)

  pub before_left : (n : ℕ) → before_trailer S code l ≡ accept n → n ≤ length l
  unfolding before_trailer
  before_left n e =
      by_cases S.auth
      (λ g. trailer_left n (sym (cond_true S.auth (trailer_of S code l) (accept (length l)) g) ∙ e))
      (λ g. omega (arith, accept_inj _ _ (sym (cond_false S.auth (trailer_of S code l) (accept (length l)) g) ∙ e)))
