-- `aes::decipher_tables` meets its contract: what it gives is the inverse S-box.
-- Assumes nothing.
use Rattle.aes.specs.Cipher.Body.{inv_sbox_deciphers}
use Rattle.aes.proofs.decipher_tables.Goals as goal

pub returns : goal.returns
returns c = inv_sbox_deciphers c.inv_sbox.result.now c.inv_sbox.ensures
