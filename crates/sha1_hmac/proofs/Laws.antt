-- What is SHA-1's own: the outer hash's last block, and sizes.
use Rattle.std.proofs.Common.{◌≡◌, ℕ, ◌+◌, ◌≤◌, Bool, List, [], ◌∷◌, ◌++◌, length, drop, get_or, set, refl, replicate, ap, ◌∙◌, arith}
use Rattle.std.specs.Int.Bits.{bit_xor}
use Rattle.octets.specs.Bytes.{Bytes}
use Rattle.octets.specs.Tab.{tab}
use Rattle.octets.specs.Place.{begun}
use Rattle.octets.specs.Promise.{PutPromise}
use Rattle.octets.proofs.Place.{put_done, begun_first}
use Rattle.hmac.specs.Count.{ceiling}
use Rattle.hmac.specs.Hmac.{xored}
use Rattle.running.specs.Hash.{pad}
use Rattle.running.proofs.Sizes as sizes
use Rattle.sha1_block.specs.Block.{sha1_hash}
use Rattle.sha1_block.proofs.Laws.{sha1_sized}
use Rattle.sha1_hmac.specs.Hash.{sha1, hmac_sha1, hmac_blocks}

-- zeros but for the padding of 84 bytes, which 20 bytes are put in front of
abbrev tail : List ℕ
tail = set (set (set (replicate 64 0) 20 0x80) 62 2) 63 160

pub last_law : (d x : List ℕ) (r : Bool) → length d ≡ 20 → PutPromise tail 0 d r x → x ≡ d ++ pad 84
unfolding pad begun
last_law d x r n p = put_done tail 0 d r x p (omega arith) ∙ begun_first d tail ∙ ap (λ (i : ℕ). d ++ drop i tail) n

-- a list xored is the tab of its bytes xored
pub xored_tab : (x : ℕ) (d : List ℕ) → tab (length d) (λ i. bit_xor (get_or d i 0) x) ≡ xored x d
unfolding xored
xored_tab x [] = refl
xored_tab x (b ∷ d) = ap (λ (t : List ℕ). bit_xor b x ∷ t) (xored_tab x d)

pub sha1-length : (m : List ℕ) → length (sha1 m) ≡ 20
unfolding sha1_hash
sha1-length m = sizes.digest-length sha1_hash sha1_sized m

pub mac_length : (k m : List ℕ) → length (hmac_sha1 k m) ≡ 20
unfolding sha1_hash
mac_length k m = sizes.mac_length sha1_hash sha1_sized k m

pub mac_bytes : (k m : List ℕ) → Bytes (hmac_sha1 k m)
mac_bytes k m = sizes.mac_bytes sha1_hash sha1_sized k m

pub mac_count_short : (k m : List ℕ) → length k ≤ 64 → hmac_blocks k m ≡ ceiling (length m + 73) 64 + 2
mac_count_short k m l = sizes.mac_count_short sha1_hash sha1_sized k m l
