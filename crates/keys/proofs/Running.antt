-- The first bytes of a code, and the code that one call makes, for any hash.
use Prim.Native.Nat.{ℕ, ◌≤◌}
use native.Mathlib.Omega.{arith}
use mathlib.Core.List.{List}
use mathlib.Core.Path.{◌≡◌, refl}
use lib.ListN.{length, take}
use Rattle.refusal.specs.Order.{Res, accept}
use Rattle.running.specs.Hash.{Hash, Sized}
use Rattle.running.specs.Mac.{MacState, hmac_of, hmac_blocks_of}
use Rattle.running.specs.Promise.{limit, MacEndPromise, HmacPromise}
use Rattle.running.specs.Given.{Given}
use Rattle.running.proofs.Sizes.{mac_length}
use Rattle.running.proofs.Coded.{mac_whole}
use Rattle.running.proofs.Givens.{given_code}
use Rattle.keys.proofs.Named.{reads, reads_take}

module _ {C : Type 0} (H : Hash C) (ok : Sized H) (k m : List ℕ) {r : Res (List ℕ × ℕ)} where
  -- of a key that is taken, a code is told, and its first bytes, read one by one, are those of the code
  pub first_bytes : (j : ℕ) {st : MacState C} → Given H k m st → MacEndPromise H st r → length m ≤ limit → j ≤ H.size
      → (v : List ℕ) × (n : ℕ) × (r ≡ accept (v, n)) × (reads j v ≡ take j (hmac_of H k m))
  first_bytes j g p l s =
      (hmac_of H k m, hmac_blocks_of H k m, given_code H ok k m g p l, reads_take j (hmac_of H k m) (omega (arith, mac_length H ok k m)))

  -- the code that one call makes, of a key and a message that are taken
  pub key_is : length k ≤ limit → length m ≤ limit → HmacPromise H k m r → (v : List ℕ) × (n : ℕ) × (r ≡ accept (v, n)) × (v ≡ hmac_of H k m)
  key_is lk lm p = (hmac_of H k m, hmac_blocks_of H k m, mac_whole H ok k m p lk lm, refl)
