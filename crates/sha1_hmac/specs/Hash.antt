-- SHA-1 and HMAC-SHA1 with their counts of blocks: FIPS 180-4 and RFC 2104 over SHA-1's compression.
use Rattle.std.specs.Prelude.{ℕ, List}
use Rattle.sha1_block.specs.Block.{sha1_hash}
use Rattle.running.specs.Hash.{digest}
use Rattle.running.specs.Mac.{hmac_of, hmac_blocks_of}

abbrev pub sha1 : List ℕ → List ℕ
sha1 m = digest sha1_hash m

abbrev pub hmac_sha1 : List ℕ → List ℕ → List ℕ
hmac_sha1 k m = hmac_of sha1_hash k m

abbrev pub hmac_blocks : List ℕ → List ℕ → ℕ
hmac_blocks k m = hmac_blocks_of sha1_hash k m
