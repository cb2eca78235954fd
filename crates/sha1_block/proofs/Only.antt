-- No second answer: two answers that keep a call's promise on the same arguments are equal.
use Rattle.std.proofs.Common.{◌≡◌, sym, ◌∙◌}
use Rattle.sha1_block.proofs.start.Reads as start-reads
use Rattle.sha1_block.proofs.blocks.Reads as blocks-reads
use Rattle.sha1_block.proofs.bytes.Reads as bytes-reads

pub start_only : (κs : _) (args : _) (a b : _) (s t : _) → start-reads.Post κs args a s → start-reads.Post κs args b t → a ≡ b
start_only κs args a b s t p q = p ∙ sym q

pub blocks_only : (κs : _) (args : _) (a b : _) (s t : _) → blocks-reads.Post κs args a s → blocks-reads.Post κs args b t → a ≡ b
blocks_only κs args a b s t p q = p ∙ sym q

pub bytes_only : (κs : _) (args : _) (a b : _) (s t : _) → bytes-reads.Post κs args a s → bytes-reads.Post κs args b t → a ≡ b
bytes_only κs args a b s t p q = p ∙ sym q
