-- What the laws ask of a key: its cipher turns blocks into blocks, the two directions undo each other, and its L values are bytes.
-- Nothing is asked of the L values' lengths, since an xor is as long as its first operand: any table of bytes will do.
use mathlib.Core.Path.{◌≡◌}
use mathlib.Core.List.{List}
use Prim.Native.Nat.{ℕ}
use Rattle.standards.specs.Strings.{Bytes, Block}
use Rattle.standards.specs.Rfc7253.{Key}

pub record Cipher (K : Key) : Type 0 where
  pub enc_block : (b : List ℕ) → Block b → Block (K.ENCIPHER b)
  pub dec_block : (b : List ℕ) → Block b → Block (K.DECIPHER b)
  pub dec_enc : (b : List ℕ) → Block b → K.DECIPHER (K.ENCIPHER b) ≡ b
  pub enc_dec : (b : List ℕ) → Block b → K.ENCIPHER (K.DECIPHER b) ≡ b
  pub star : Bytes K.L-*
  pub dollar : Bytes K.L-$
  pub table : (i : ℕ) → Bytes (K.L i)

-- f makes a block of a block, under an offset that is a block
abbrev pub Makes : (List ℕ → List ℕ → List ℕ) → Type 0
Makes f = (O b : List ℕ) → Block O → Block b → Block (f O b)
