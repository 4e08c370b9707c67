-- What an example computes with. A name of this file on an `unfolding` line opens the definitions that it lists.
use lib.Count.{count_trailing_zeros}
use Rattle.standards.specs.Strings.{◌⊕◌, ◌xor◌, digits, number, bits, bytes}
use Rattle.standards.specs.Fips197.{xtime, times, ◌•◌, power, inverse, affine, sbox, inv_affine, inv_sbox, row, rounds, cipher, inv_rounds, inv_cipher, encipher, decipher, rcon, next_word, schedule, key_expansion}
use Rattle.standards.specs.Rfc7253.{ntz, double, doubled, Nonce, bottom, top, Stretch, cut, Offset-0, wholes, block_at, rest, padded, Offset, seal_block, open_block, hash_block, Blocks, Sum, Inputs, last_offset, last_text, last_sum, last_input, last_hash, last_hash_input, HASH, HASH-inputs, text, end_offset, seal_sum, open_sum, Tag, inputs, OCB-ENCRYPT, OCB-ENCRYPT-inputs, same, decrypted, OCB-DECRYPT, OCB-DECRYPT-inputs}
use Rattle.examples_shared.proofs.Hex.{hex}

-- AES of FIPS 197
unfoldable pub AES-opened : Unit {0}
unfolding encipher cipher rounds decipher inv_cipher inv_rounds key_expansion schedule next_word rcon row sbox inv_sbox affine inv_affine inverse power ◌•◌ times
    xtime ◌⊕◌ hex
AES-opened = tt

-- OCB of RFC 7253 over any cipher
unfoldable pub OCB-opened : Unit {0}
unfolding OCB-ENCRYPT OCB-ENCRYPT-inputs OCB-DECRYPT OCB-DECRYPT-inputs decrypted same inputs Tag open_sum seal_sum end_offset text HASH-inputs HASH
    last_hash_input last_hash last_input last_sum last_text last_offset Inputs Sum Blocks hash_block open_block seal_block Offset padded rest block_at wholes Offset-0 cut
    Stretch top bottom Nonce doubled double ntz count_trailing_zeros bytes bits number digits ◌xor◌ ◌⊕◌ hex
OCB-opened = tt
