-- A run of rounds, for the contract of the function that does twenty of them (FIPS 180-4, section 6.1.2, step 3).
use Rattle.std.specs.Prelude.{ℕ, zero, suc, ◌+◌, List, slice_index}
use Rattle.sha1_block.specs.Block.{round}
use Rattle.sha1_block.specs.declared.Chain.{Chain}

-- the rounds t to t + n - 1
unfoldable pub turns : ℕ → ℕ → List ℕ → Chain → Chain
turns t zero w v = v
turns t (suc n) w v = round (t + n) (slice_index w (t + n)) (turns t n w v)
