-- The code of a session's packets (docs/RULES.md, 3.4, 6.4 and 6.4.1).
use Rattle.std.specs.Prelude.{ℕ, ◌+◌, cond, List, ◌≡◌, leb, length, replicate}
use Rattle.hmac.specs.Count.{ceiling}
use Rattle.running.specs.Promise.{limit}
use Rattle.sha1_hmac.specs.Hash.{hmac_sha1}
use Rattle.suite.specs.declared.Code.{Code}
use Rattle.suite.specs.declared.SubState.{SubState}

-- the blocks of HMAC over n bytes, with a key of up to 64
abbrev pub mac_blocks : ℕ → ℕ
mac_blocks n = ceiling (n + 73) 64 + 2

-- no code is longer than what the hash computes, whatever the algorithm
abbrev pub longest_code : ℕ
longest_code = 20

-- HMAC-SHA1 of up to 1,048,576 bytes under K1, whole, and its blocks; of more bytes zeros and no block
pub record CodePromise (s : SubState) (l : List ℕ) (r : Code) : Type 0 where
  pub code : r.code ≡ cond (leb (length l) limit) (hmac_sha1 s.keys.k1 l) (replicate longest_code 0)
  pub blocks : r.blocks ≡ cond (leb (length l) limit) (mac_blocks (length l)) 0
