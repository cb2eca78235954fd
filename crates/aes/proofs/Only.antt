-- No second answer: two results that keep a public call's promise on the same arguments are equal.
use mathlib.Core.Path.{◌≡◌, sym, ◌∙◌}
use Rattle.aes.specs.declared.Aes128.{Aes128}
use Rattle.aes.specs.Schedule.{keys_of}
use Rattle.aes.proofs.Aes128.new.Reads as new
use Rattle.aes.proofs.Aes128.encrypt_block.Reads as encrypt
use Rattle.aes.proofs.Aes128.decrypt_block.Reads as decrypt

-- an expanded key is its round keys
keys_one : (a b : Aes128) → keys_of a ≡ keys_of b → a ≡ b
unfolding keys_of
keys_one a b e = λ i. record { keys = e i }

pub new_only : (κs : _) (args : _) (a b : _) (s t : _) → new.Post κs args a s → new.Post κs args b t → a ≡ b
new_only κs args a b s t p q = keys_one a b (p ∙ sym q)

pub encrypt_block_only : (κs : _) (args : _) (a b : _) (s t : _) → encrypt.Post κs args a s → encrypt.Post κs args b t → a ≡ b
encrypt_block_only κs args a b s t p q = p ∙ sym q

pub decrypt_block_only : (κs : _) (args : _) (a b : _) (s t : _) → decrypt.Post κs args a s → decrypt.Post κs args b t → a ≡ b
decrypt_block_only κs args a b s t p q = p ∙ sym q
