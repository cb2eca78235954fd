use Rattle.std.proofs.Common.{refl, arith}
use Rattle.aes.specs.Cipher.{rounds}
use Rattle.aes.specs.Schedule.{keys_of}
use Rattle.aes.proofs.Rounds.{round_turn, cipher_end}
use Rattle.aes.proofs.Aes128.encrypt_block.Goals as goal

pub loop-n-init : goal.loop-n-init
unfolding rounds
loop-n-init c = refl

pub loop-n-preserved : goal.loop-n-preserved
loop-n-preserved c =
    round_turn _ c.loop-n.n _ _ _ _ _ _ (omega arith) c.loop-n.invariant c.sub_bytes.ensures c.shift_rows.ensures c.mix_columns.ensures
    c.add_round_key-t-in-loop-n.ensures

pub returns : goal.returns
unfolding keys_of
returns c =
    cipher_end _ c.loop-n.n _ _ _ _ _ _ (omega arith) c.add_round_key-t.ensures c.loop-n.invariant c.sub_bytes-2.ensures
    c.shift_rows-2.ensures c.add_round_key.ensures
