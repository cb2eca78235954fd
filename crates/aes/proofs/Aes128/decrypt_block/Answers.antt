use Rattle.std.proofs.Common.{arith}
use Rattle.aes.specs.Schedule.{keys_of}
use Rattle.aes.proofs.Rounds.{unround_turn, inv_cipher_end}
use Rattle.aes.proofs.Aes128.decrypt_block.Goals as goal

pub loop-n-preserved : goal.loop-n-preserved
loop-n-preserved c =
    unround_turn _ _ _ _ _ _ _ _ (omega arith) c.loop-n.invariant c.inv_shift_rows.ensures c.inv_sub_bytes.ensures
    c.add_round_key.ensures c.inv_mix_columns-t.ensures

pub returns : goal.returns
unfolding keys_of
returns c =
    inv_cipher_end _ c.loop-n.n _ _ _ _ _ _ (omega arith) c.add_round_key-t.ensures c.loop-n.invariant c.inv_shift_rows-2.ensures
    c.inv_sub_bytes-2.ensures c.add_round_key-2.ensures
