-- The block cipher as the crates above know it: nr rounds under the round keys' bytes w, on the block b, and the tables that it works with.
-- All four definitions are shut. What may be used of them is proofs/Promise.antt and the contracts of src/lib.rt.
use Rattle.std.specs.Prelude.{◌≡◌, List, ℕ}
use Rattle.standards.specs.Fips197.{encipher, decipher}
use Rattle.field.specs.Tables.{sbox_table, inv_sbox_table}
-- the equations, for this crate's proofs and for the one place that says that the cipher is FIPS 197's
pub mod Body

pub enc : ℕ → List ℕ → List ℕ → List ℕ
enc nr w b = encipher nr w b

pub dec : ℕ → List ℕ → List ℕ → List ℕ
dec nr w b = decipher nr w b

-- t is what `encipher_tables` gives
pub EnciphersWith : List ℕ → Type 0
EnciphersWith t = t ≡ sbox_table

-- t is what `decipher_tables` gives
pub DeciphersWith : List ℕ → Type 0
DeciphersWith t = t ≡ inv_sbox_table
