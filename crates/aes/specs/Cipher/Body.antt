-- What the definitions are: FIPS 197's cipher and inverse cipher, with the S-box and with its inverse.
use Rattle.std.specs.Prelude.{◌≡◌, refl, List, ℕ}
use Rattle.std.proofs.Props.{props}
use Rattle.standards.specs.Fips197.{encipher, decipher}
use Rattle.field.specs.Tables.{sbox_table, inv_sbox_table}
use Rattle.aes.specs.Cipher.{enc, dec, EnciphersWith, DeciphersWith}

pub enc_is : (nr : ℕ) (w b : List ℕ) → enc nr w b ≡ encipher nr w b
unfolding enc
enc_is nr w b = refl

pub dec_is : (nr : ℕ) (w b : List ℕ) → dec nr w b ≡ decipher nr w b
unfolding dec
dec_is nr w b = refl

pub sbox_enciphers : (t : List ℕ) → t ≡ sbox_table → EnciphersWith t
unfolding EnciphersWith
sbox_enciphers t e = e

pub enciphers_sbox : (t : List ℕ) → EnciphersWith t → t ≡ sbox_table
unfolding EnciphersWith
enciphers_sbox t e = e

pub inv_sbox_deciphers : (t : List ℕ) → t ≡ inv_sbox_table → DeciphersWith t
unfolding DeciphersWith
inv_sbox_deciphers t e = e

pub deciphers_inv_sbox : (t : List ℕ) → DeciphersWith t → t ≡ inv_sbox_table
unfolding DeciphersWith
deciphers_inv_sbox t e = e

-- each fact has one proof, so that a value can carry it
pub enciphers_fact : (t : List ℕ) → IsProp (EnciphersWith t)
unfolding EnciphersWith
enciphers_fact t = Prim.hlevel props

pub deciphers_fact : (t : List ℕ) → IsProp (DeciphersWith t)
unfolding DeciphersWith
deciphers_fact t = Prim.hlevel props
