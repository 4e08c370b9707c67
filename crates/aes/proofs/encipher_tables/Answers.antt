-- `aes::encipher_tables` meets its contract: what it gives is the S-box.
-- Assumes nothing.
use Rattle.aes.specs.Cipher.Body.{sbox_enciphers}
use Rattle.aes.proofs.encipher_tables.Goals as goal

pub returns : goal.returns
returns c = sbox_enciphers c.sbox.result.now c.sbox.ensures
