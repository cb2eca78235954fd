-- No second answer: two results that keep a public call's promise on the same arguments are equal.
use mathlib.Core.Path.{◌≡◌, sym, ◌∙◌}
use Rattle.sbox.proofs.xtime.Reads as xtime
use Rattle.sbox.proofs.sub_byte.Reads as sub-byte
use Rattle.sbox.proofs.inv_sub_byte.Reads as inv-sub-byte
use Rattle.sbox.proofs.sub_bytes.Reads as sub-bytes
use Rattle.sbox.proofs.inv_sub_bytes.Reads as inv-sub-bytes

pub xtime_only : (κs : _) (args : _) (a b : _) (s t : _) → xtime.Post κs args a s → xtime.Post κs args b t → a ≡ b
xtime_only κs args a b s t p q = p ∙ sym q

pub sub_byte_only : (κs : _) (args : _) (a b : _) (s t : _) → sub-byte.Post κs args a s → sub-byte.Post κs args b t → a ≡ b
sub_byte_only κs args a b s t p q = p ∙ sym q

pub inv_sub_byte_only : (κs : _) (args : _) (a b : _) (s t : _) → inv-sub-byte.Post κs args a s → inv-sub-byte.Post κs args b t → a ≡ b
inv_sub_byte_only κs args a b s t p q = p ∙ sym q

pub sub_bytes_only : (κs : _) (args : _) (a b : _) (s t : _) → sub-bytes.Post κs args a s → sub-bytes.Post κs args b t → a ≡ b
sub_bytes_only κs args a b s t p q = p ∙ sym q

pub inv_sub_bytes_only : (κs : _) (args : _) (a b : _) (s t : _) → inv-sub-bytes.Post κs args a s → inv-sub-bytes.Post κs args b t → a ≡ b
inv_sub_bytes_only κs args a b s t p q = p ∙ sym q
