-- The definitions on the worked examples of the standards, computed: FIPS 180-4's message `abc` (its digest is the one that the
-- standard's examples give) and case 2 of RFC 2202, section 3. No code is involved.
use Rattle.std.proofs.Common.{◌≡◌, [], ◌∷◌, refl}
use Rattle.octets.specs.Place.{filled}
use Rattle.hmac.specs.Hmac.{xored, key_block, inner, outer, hmac}
use Rattle.sha1_block.specs.Block.{f_t, k_t, words, more, schedule, round, rounds, added, compress, sha1_hash}
use Rattle.running.specs.Hash.{runs, pad, padded, block_count, digest}
use Rattle.sha1_hmac.specs.Hash.{sha1, hmac_sha1}

pub abc : sha1 (0x61 ∷ 0x62 ∷ 0x63 ∷ [])
    ≡ 0xa9 ∷ 0x99 ∷ 0x3e ∷ 0x36 ∷ 0x47 ∷ 0x06 ∷ 0x81 ∷ 0x6a ∷ 0xba ∷ 0x3e ∷ 0x25 ∷ 0x71 ∷ 0x78 ∷ 0x50 ∷ 0xc2 ∷ 0x6c ∷ 0x9c ∷ 0xd0 ∷ 0xd8 ∷ 0x9d ∷ []
unfolding f_t k_t words more schedule round rounds added compress sha1_hash runs pad padded block_count digest
abc = refl

-- the key `Jefe`, the text `what do ya want for nothing?`
pub case_2 : hmac_sha1 (0x4a ∷ 0x65 ∷ 0x66 ∷ 0x65 ∷ [])
    (0x77 ∷ 0x68 ∷ 0x61 ∷ 0x74 ∷ 0x20 ∷ 0x64 ∷ 0x6f ∷ 0x20 ∷ 0x79 ∷ 0x61 ∷ 0x20 ∷ 0x77 ∷ 0x61 ∷ 0x6e ∷ 0x74 ∷ 0x20 ∷ 0x66 ∷ 0x6f ∷ 0x72 ∷ 0x20 ∷ 0x6e ∷ 0x6f ∷
    0x74 ∷ 0x68 ∷ 0x69 ∷ 0x6e ∷ 0x67 ∷ 0x3f ∷ [])
    ≡ 0xef ∷ 0xfc ∷ 0xdf ∷ 0x6a ∷ 0xe5 ∷ 0xeb ∷ 0x2f ∷ 0xa2 ∷ 0xd2 ∷ 0x74 ∷ 0x16 ∷ 0xd5 ∷ 0xf1 ∷ 0x84 ∷ 0xdf ∷ 0x9c ∷ 0x25 ∷ 0x9a ∷ 0x7c ∷ 0x79 ∷ []
unfolding f_t k_t words more schedule round rounds added compress sha1_hash runs pad padded block_count digest xored filled key_block inner outer hmac
case_2 = refl
