-- What the code of up to 1,048,576 bytes is for the frame rules: its first bytes are the suite's code, and its blocks the suite's.
use Prim.Native.Nat.{ℕ, ◌≤◌}
use mathlib.Core.Bool.{Bool, cond}
use mathlib.Core.List.{List}
use mathlib.Core.Path.{◌≡◌, ◌∙◌, ap}
use lib.ListN.{length, take, replicate}
use borrow.Author.Tests.{le-leb}
use Rattle.running.specs.Promise.{limit}
use Rattle.sha1_hmac.specs.Hash.{hmac_sha1}
use Rattle.suite.specs.Code.{CodePromise, mac_blocks, longest_code}
use Rattle.suite.specs.Session.{suite_of}
use Rattle.suite.specs.declared.Code.{Code}
use Rattle.suite.specs.declared.SubState.{SubState}

module _ (s : SubState) (l : List ℕ) (r : Code) (p : CodePromise s l r) (h : length l ≤ limit) where
  pub code_right : take (suite_of s).m r.code ≡ (suite_of s).mac l
  code_right =
      ap (take (suite_of s).m) (p.code ∙ ap (λ (b : Bool). cond b (hmac_sha1 s.keys.k1 l) (replicate longest_code 0)) (le-leb (length l) limit h))

  pub blocks_right : r.blocks ≡ (suite_of s).blocks (length l)
  blocks_right = p.blocks ∙ ap (λ (b : Bool). cond b (mac_blocks (length l)) 0) (le-leb (length l) limit h)
