-- The blocks behind the answers that tell none (docs/DECISIONS.md, E5): for keys and check values they are the same whatever the arguments.
use Prim.Native.Nat.{ℕ, ◌≤◌}
use native.Mathlib.Omega.{arith}
use mathlib.Core.List.{List}
use mathlib.Core.Path.{◌≡◌, refl, ◌∙◌}
use lib.ListN.{length, replicate, length-append}
use Rattle.sha1_hmac.specs.Hash.{hmac_blocks}
use Rattle.sha1_hmac.proofs.Laws.{mac_count_short}
use Rattle.keys.specs.Codes.{text4}

module _ (sik : List ℕ) (h : length sik ≡ 20) where
  short : length sik ≤ 64
  short = omega arith

  -- each of the two keys that a SIK gives
  pub derived_blocks : (i : ℕ) → hmac_blocks sik (replicate 20 i) ≡ 4
  derived_blocks i = mac_count_short sik (replicate 20 i) short

  -- message 4's value
  pub value_blocks : (rm : List ℕ) (sidc : ℕ) (guid : List ℕ) → length rm ≡ 16 → length guid ≡ 16 → hmac_blocks sik (text4 rm sidc guid) ≡ 4
  unfolding text4
  value_blocks rm sidc guid e f =
      let size : length (text4 rm sidc guid) ≡ 36 = simp (length-append, length-append) (omega arith) in
      mac_count_short sik (text4 rm sidc guid) short ∙ rw size refl
