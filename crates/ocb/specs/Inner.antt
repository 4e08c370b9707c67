-- What the inner functions leave once the sizes are in range, under the key K that the lent parts of a state hold; the first offset in bytes.
use Rattle.std.specs.Prelude.{◌≡◌, Bool, List, ℕ, length, take}
use Rattle.standards.specs.Rfc7253.{Key, seal_block, open_block, text, end_offset, seal_sum, open_sum, Tag, same}
use Rattle.standards.specs.InBytes.{initial_offset}
use Rattle.ocb_steps.specs.Steps.{turned}
use Rattle.ocb_walk.specs.Walked.{checksum}

-- S' is left of the text S, whichever way it goes, and T is the whole tag of which t bytes are asked for
pub record Through (opens : Bool) (K : Key) (N A : List ℕ) (t : ℕ) (S S' T : List ℕ) : Type 0 where
  pub text_is : S' ≡ text (turned opens) K (initial_offset K.ENCIPHER t N) S
  pub tag_is : let O = initial_offset K.ENCIPHER t N in T ≡ Tag K (checksum opens K O S) (end_offset K O S) A

-- C and T' are left of the text P and the tag place T
pub record Encrypted (K : Key) (N A P T C T' : List ℕ) : Type 0 where
  pub text_is : C ≡ text seal_block K (initial_offset K.ENCIPHER (length T) N) P
  pub tag_is : let O = initial_offset K.ENCIPHER (length T) N in T' ≡ take (length T) (Tag K (seal_sum K O P) (end_offset K O P) A)

-- P is left of the ciphertext C; valid says whether T is its tag
pub record Decrypted (K : Key) (N A C T P : List ℕ) (valid : Bool) : Type 0 where
  pub text_is : P ≡ text open_block K (initial_offset K.ENCIPHER (length T) N) C
  pub valid-is : let O = initial_offset K.ENCIPHER (length T) N in valid ≡ same (take (length T) (Tag K (open_sum K O C) (end_offset K O C) A)) T
