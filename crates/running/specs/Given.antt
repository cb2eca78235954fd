-- A running HMAC to which a key and bytes were given (docs/RULES.md, 3.4 and 3.5).
use Rattle.std.specs.Prelude.{ℕ, ◌≤◌, List, ◌≡◌, leb, length}
use Rattle.refusal.specs.Order.{Res}
use Rattle.running.specs.Hash.{Hash}
use Rattle.running.specs.Mac.{MacState, mac_after}
use Rattle.running.specs.Promise.{limit, Answer}

module _ {C : Type 0} (H : Hash C) where
  -- the state of an HMAC that was begun with the key k, which is not too long, and was given the bytes of m
  pub record Given (k m : List ℕ) (st : MacState C) : Type 0 where
    pub key : length k ≤ limit
    pub state : st ≡ mac_after H k m

  -- the answer r of calls that begin an HMAC with the key k and give it the bytes of m: 37 for a key that is too long
  abbrev pub GivenPromise : List ℕ → List ℕ → Res (MacState C) → Type 0
  GivenPromise k m r = Answer (leb (length k) limit) (mac_after H k m) r
