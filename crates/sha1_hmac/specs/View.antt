-- The structs of this crate as the states of a running hash, and a code as its bytes and its blocks.
use Rattle.std.specs.Prelude.{ℕ, List}
use Rattle.sha1_block.specs.declared.Chain.{Chain}
use Rattle.running.specs.Running.{State}
use Rattle.running.specs.Mac.{MacState}
use Rattle.sha1_hmac.specs.declared.Sha1.{Sha1}
use Rattle.sha1_hmac.specs.declared.Hashed.{Hashed}
use Rattle.sha1_hmac.specs.declared.mac.Sha1Hmac.{Sha1Hmac}

abbrev pub state_of : Sha1 → State Chain
state_of st = record { h = st.h; buf = st.buf; len = st.len; blocks = st.blocks }

abbrev pub mac_state_of : Sha1Hmac → MacState Chain
mac_state_of st = record { inner = state_of st.inner; outer = st.outer; blocks = st.blocks }

abbrev pub hashed_of : Hashed → List ℕ × ℕ
hashed_of h = (h.digest, h.blocks)
