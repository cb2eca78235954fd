-- `make_code` keeps its promise: the pieces, then N.
use Rattle.std.proofs.Common.{◌≡◌, ℕ, ◌+◌, ◌≤◌, List, ◌∷◌, [], ◌++◌, length, take, arith, rules, length-append}
use Rattle.std.proofs.lemmas.Result.{err_from_is_err_and}
use lib.Seq.{length-take-le}
use Rattle.hmac.specs.Pieces.{joined}
use Rattle.sha1_block.specs.Block.{sha1_hash}
use Rattle.sha1_block.proofs.Laws.{sha1_sized}
use Rattle.running.proofs.Givens.{given_by, given_next, given_taken, given_hashed}
use Rattle.running.proofs.Promised.{handed_on}
use Rattle.keys.proofs.Pieces.{each}
use Rattle.keys.proofs.Named.{named_text}
use Rattle.keys.proofs.state.make_code.Goals as goal

pub returns-in_err-feed_pieces : goal.returns-in_err-feed_pieces
returns-in_err-feed_pieces c =
    let e = err_from_is_err_and c.from_residual.result c.from_residual.ensures.1 in
    rw (e.1, e.2) (handed_on _ c.in_err-feed_pieces.ensures)

pub returns-in_err-feed : goal.returns-in_err-feed
returns-in_err-feed c =
    let g = given_by sha1_hash sha1_sized _ _ c.in_ok-feed_pieces.ensures in
    absurd (given_taken sha1_hash sha1_sized _ _ g _ c.in_err-feed.ensures (omega arith))

-- the name's bytes
short : (m : ℕ) (name : List ℕ) → length name ≡ 16 → m ≤ 16 → length (take m name) ≤ 16
short m name h l = omega (arith, length-take-le m name (omega arith))

pub returns-in_err-feed-2 : goal.returns-in_err-feed-2
returns-in_err-feed-2 c =
    let a = c.args in
    let m = c.min-len.result in
    let text : List ℕ = joined (each a.pieces.now) in
    let n : length a.named.name ≡ 16 = search rules in
    let s : length (take m a.named.name) ≤ 16 = short m a.named.name n (omega arith) in
    let k : length (text ++ (a.named.role ∷ m ∷ [])) ≡ length text + 2 = length-append text (a.named.role ∷ m ∷ []) in
    let g = given_by sha1_hash sha1_sized _ _ c.in_ok-feed_pieces.ensures in
    let h = given_next sha1_hash sha1_sized _ _ g _ c.in_ok-feed.ensures (omega arith) in
    absurd (given_taken sha1_hash sha1_sized _ _ h _ c.in_err-feed-2.ensures (omega arith))

pub returns : goal.returns
returns c =
    let a = c.args in
    let m = c.min-len.result in
    let text : List ℕ = joined (each a.pieces.now) in
    let n : length a.named.name ≡ 16 = search rules in
    let s : length (take m a.named.name) ≤ 16 = short m a.named.name n (omega arith) in
    let k : length (text ++ (a.named.role ∷ m ∷ [])) ≡ length text + 2 = length-append text (a.named.role ∷ m ∷ []) in
    let j : length ((text ++ (a.named.role ∷ m ∷ [])) ++ take m a.named.name) ≡ length (text ++ (a.named.role ∷ m ∷ [])) + length (take m a.named.name) =
    length-append (text ++ (a.named.role ∷ m ∷ [])) (take m a.named.name) in
    let g = given_by sha1_hash sha1_sized _ _ c.in_ok-feed_pieces.ensures in
    let h = given_next sha1_hash sha1_sized _ _ g _ c.in_ok-feed.ensures (omega arith) in
    let i = given_next sha1_hash sha1_sized _ _ h _ c.in_ok-feed-2.ensures (omega arith) in
    rw (named_text text a.named m n c.min-len.ensures) at (given_hashed sha1_hash sha1_sized _ _ i c.finalize.ensures (omega arith))
