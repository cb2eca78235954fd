-- The head, one law for each way out of it: the premises are the tests as the code makes them.
use Prim.Native.Nat.{ℕ, ◌/◌, ◌%◌, ◌≤◌, ◌<◌}
use mathlib.Core.Bool.{Bool, true, false, ◌||◌}
use mathlib.Core.List.{List, [], ◌∷◌}
use mathlib.Core.Path.{◌≡◌, refl, sym, ◌∙◌, ap}
use lib.ListN.{length, get_or, drop}
use borrow.Author.Tests.{le-leb, lt-leb, eq-eqb, ne_eqb}
use Rattle.refusal.specs.Order.{Res, refuse, accept, need}
use Rattle.refusal.specs.Table.{among}
use Rattle.refusal.proofs.Order.{pass, need_no, need_inv, refuse≢accept}
use Rattle.framing.specs.Known.{known, type_numbers}
use Rattle.framing.specs.Suite.{Suite}
use Rattle.framing.specs.Packet.{bit}
use Rattle.framing.specs.Read.{longest_packet, head_of}
use Rattle.octets.proofs.Order.{by_cases}

-- the number of a type
pub type_found : (n t : ℕ) → n ≡ t → known t ≡ true → accept t ≡ need (known n) 3 n (accept n)
type_found n t e k = sym (pass _ _ _ _ (ap known e ∙ k) (ap accept e))

-- a number that is none of a list's
none : (x y : ℕ) (l : List ℕ) → (x ≡ y → ⊥) → among x l ≡ false → among x (y ∷ l) ≡ false
none x y l h e = ap (λ (b : Bool). b || among x l) (ne_eqb x y h) ∙ e

pub type_none : (n : ℕ) → (n ≡ 0x00 → ⊥) → (n ≡ 0x01 → ⊥) → (n ≡ 0x10 → ⊥) → (n ≡ 0x11 → ⊥) → (n ≡ 0x12 → ⊥) → (n ≡ 0x13 → ⊥) → (n ≡ 0x14 → ⊥)
    → (n ≡ 0x15 → ⊥)
    → refuse 3 n ≡ need (known n) 3 n (accept n)
unfolding known
type_none n a b c d e f g h =
    sym (need_no (known n) 3 n (accept n)
    (none n 0x00 (drop 1 type_numbers) a (none n 0x01 (drop 2 type_numbers) b (none n 0x10 (drop 3 type_numbers) c (none n 0x11 (drop 4 type_numbers) d
    (none n 0x12 (drop 5 type_numbers) e (none n 0x13 (drop 6 type_numbers) f (none n 0x14 (drop 7 type_numbers) g (none n 0x15 [] h refl)))))))))

module _ (S : Suite) (l : List ℕ) where
  pub head_1 : length l < 10 → refuse 1 0 ≡ head_of S l
  unfolding head_of
  head_1 h = sym (need_no _ _ _ _ (lt-leb _ _ h))

  module _ (h : 10 ≤ length l) where
    pub head_2 : (get_or l 0 0 ≡ 0x06 → ⊥) → refuse 2 0 ≡ head_of S l
    unfolding head_of
    head_2 e = sym (pass _ _ _ _ (le-leb _ _ h) (need_no _ _ _ _ (ne_eqb _ _ e)))

    module _ (e : get_or l 0 0 ≡ 0x06) where
      -- what the test of the type found, where it is a refusal
      pub head_3 : (r : Res ℕ) (n v : ℕ) → r ≡ need (known (get_or l 1 0 % 64)) 3 (get_or l 1 0 % 64) (accept (get_or l 1 0 % 64)) → r ≡ refuse n v
          → r ≡ head_of S l
      unfolding head_of
      head_3 r n v f g =
          let t : ℕ = get_or l 1 0 % 64 in
          by_cases (known t)
          (λ k. absurd (refuse≢accept n v t (sym g ∙ f ∙ pass _ _ _ _ k refl)))
          (λ k. f ∙ need_no (known t) 3 t (accept t) k ∙ sym (pass _ _ _ _ (le-leb _ _ h) (pass _ _ _ _ (eq-eqb _ _ e) (need_no _ _ _ _ k))))

      module _ (r : Res ℕ) (a : ℕ) (f : r ≡ need (known (get_or l 1 0 % 64)) 3 (get_or l 1 0 % 64) (accept (get_or l 1 0 % 64))) (g : r ≡ accept a) where
        known_type : known (get_or l 1 0 % 64) ≡ true
        known_type = (need_inv _ _ _ _ (sym f ∙ g)).0

        pub head_4 : (get_or l 1 0 / 128 % 2 ≡ bit S.aes → ⊥) → refuse 4 0 ≡ head_of S l
        unfolding head_of
        head_4 k = sym (pass _ _ _ _ (le-leb _ _ h) (pass _ _ _ _ (eq-eqb _ _ e) (pass _ _ _ _ known_type (need_no _ _ _ _ (ne_eqb _ _ k)))))

        pub head_5 : get_or l 1 0 / 128 % 2 ≡ bit S.aes → (get_or l 1 0 / 64 % 2 ≡ bit S.auth → ⊥) → refuse 5 0 ≡ head_of S l
        unfolding head_of
        head_5 j k =
            sym (pass _ _ _ _ (le-leb _ _ h)
            (pass _ _ _ _ (eq-eqb _ _ e) (pass _ _ _ _ known_type (pass _ _ _ _ (eq-eqb _ _ j) (need_no _ _ _ _ (ne_eqb _ _ k))))))

        pub head_9 : get_or l 1 0 / 128 % 2 ≡ bit S.aes → get_or l 1 0 / 64 % 2 ≡ bit S.auth → longest_packet S < length l → refuse 9 0 ≡ head_of S l
        unfolding head_of
        head_9 j k m =
            sym (pass _ _ _ _ (le-leb _ _ h)
            (pass _ _ _ _ (eq-eqb _ _ e)
            (pass _ _ _ _ known_type (pass _ _ _ _ (eq-eqb _ _ j) (pass _ _ _ _ (eq-eqb _ _ k) (need_no _ _ _ _ (lt-leb _ _ m)))))))

        pub head_done : get_or l 1 0 / 128 % 2 ≡ bit S.aes → get_or l 1 0 / 64 % 2 ≡ bit S.auth → length l ≤ longest_packet S → r ≡ head_of S l
        unfolding head_of
        head_done j k m =
            f ∙ pass _ _ _ _ known_type refl
            ∙ sym (pass _ _ _ _ (le-leb _ _ h)
            (pass _ _ _ _ (eq-eqb _ _ e)
            (pass _ _ _ _ known_type (pass _ _ _ _ (eq-eqb _ _ j) (pass _ _ _ _ (eq-eqb _ _ k) (pass _ _ _ _ (le-leb _ _ m) refl))))))
