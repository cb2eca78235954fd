-- The marked cases hold, the last with the hash that makes the code of a packet.
use Rattle.sha1_block.specs.Block.{sha1_hash}
use Rattle.sha1_block.proofs.Laws.{sha1_sized}
use Rattle.framing.specs.Marked.{Every, marked_cases}
use Rattle.framing.proofs.Marked as framing

pub marked : Every (marked_cases sha1_hash)
marked = framing.marked sha1_hash sha1_sized
