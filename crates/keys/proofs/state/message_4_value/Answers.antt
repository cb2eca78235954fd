-- `message_4_value` keeps its promise: a key of twenty bytes is taken, and the code's first twelve bytes are cut out.
use Rattle.std.proofs.Common.{◌≡◌, ℕ, ◌≤◌, List, ◌∷◌, [], ap, ◌∙◌, length, take, arith, rules}
use borrow.Author.Tests.{le-leb}
use Rattle.std.proofs.lemmas.Grind.{common_steps}
use Rattle.octets.specs.Number.{le}
use Rattle.octets.specs.Place.{part, filled}
use Rattle.hmac.specs.Pieces.{joined}
use Rattle.running.specs.Promise.{limit}
use Rattle.running.proofs.Promised.{yes}
use Rattle.sha1_block.specs.Block.{sha1_hash}
use Rattle.sha1_block.proofs.Laws.{sha1_sized}
use Rattle.sha1_hmac.specs.View.{mac_state_of, hashed_of}
use Rattle.sha1_hmac.specs.Hash.{hmac_sha1}
use Rattle.keys.proofs.Named.{reads, cut_reads}
use Rattle.keys.proofs.Running.{first_bytes}
use Rattle.keys.proofs.Texts.{room_4, joined_4}
use Rattle.keys.proofs.Told.{told_ok, told_value, given_told, pieces_told}
use Rattle.keys.proofs.state.message_4_value.Goals as goal

pub feed_pieces-requires : goal.feed_pieces-requires
feed_pieces-requires c =
    let b = c.le-sidc.result in
    let h : length (joined (c.args.rm ∷ b ∷ c.args.guid ∷ [])) ≤ 1024 = room_4 _ b _ (search rules) (search rules) (search rules) in
    omega arith

pub unwrap-mac-requires : goal.unwrap-mac-requires
unwrap-mac-requires c =
    let n : length c.args.sik ≡ 20 = search rules in
    told_ok mac_state_of _ (yes c.feed_pieces.ensures (le-leb (length c.args.sik) limit (omega arith)))

pub unwrap-code-requires : goal.unwrap-code-requires
unwrap-code-requires c =
    let b = c.le-sidc.result in
    let h : length (joined (c.args.rm ∷ b ∷ c.args.guid ∷ [])) ≤ 1024 = room_4 _ b _ (search rules) (search rules) (search rules) in
    told_ok hashed_of _ (pieces_told _ _ _ c.feed_pieces.ensures c.unwrap-mac.ensures c.finalize.ensures (omega arith))

pub returns : goal.returns
unfolding sha1_hash
returns c =
    let a = c.args in
    let b = c.le-sidc.result in
    let d = c.unwrap-code.result.digest in
    let h : length (joined (a.rm ∷ b ∷ a.guid ∷ [])) ≤ 1024 = room_4 _ b _ (search rules) (search rules) (search rules) in
    let g = given_told _ _ c.feed_pieces.ensures c.unwrap-mac.ensures in
    let q = first_bytes sha1_hash sha1_sized _ _ 12 g c.finalize.ensures (omega arith) (omega arith) in
    let e = told_value hashed_of c.unwrap-code.ensures q.2 in
    let f : b ≡ le 4 a.sidc = c.le-sidc.ensures ∙ ap (le 4) c.from.ensures in
    let n : length d ≡ 20 = search rules in
    c.cut.ensures ∙ ap (λ (l : List ℕ). filled 12 (part l 0 12)) (grind (arith, common_steps)) ∙ cut_reads 12 d (omega arith)
    ∙ ap (reads 12) (λ i. (e i).0) ∙ q.3
    ∙ ap (λ (t : List ℕ). take 12 (hmac_sha1 a.sik t)) (joined_4 a.rm b a.guid a.sidc f)
