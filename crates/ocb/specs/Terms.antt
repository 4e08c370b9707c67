-- The words in which the demands are said (proofs/Demands.antt), over RFC 7253 and FIPS 197 alone.
use Rattle.std.specs.Prelude.{◌≡◌, List, ◌++◌, ℕ, ◌/◌, length}
use Rattle.standards.specs.Strings.{zeros, Bytes}
use Rattle.standards.specs.Rfc7253.{Plaintext, VALID, INVALID, OCB-ENCRYPT}
use Rattle.standards.specs.AesOcb.{AES}
use Rattle.ocb_variables.specs.declared.State.{State}
use Rattle.ocb.specs.declared.SetUp.{SetUp}
use Rattle.ocb.specs.declared.Answer.{Answer}
use Rattle.ocb.specs.Answers.{set_up}

-- u is what set_up answers for the key k and m, and it is not refused: its state is made from that key
pub record MadeFrom (k : List ℕ) (m : ℕ) (u : SetUp) : Type 0 where
  pub promise : u ≡ set_up k m
  pub accepted : u.number ≡ 0
  pub key_bytes : Bytes k

-- P is a plaintext of bytes that RFC 7253 over AES with the key k, of length k / 4 words, encrypts, under the nonce N, the associated data A and a tag as long as T,
-- to just the ciphertext C and the tag T
pub record Encrypts (k N A P C T : List ℕ) : Type 0 where
  pub plain_bytes : Bytes P
  pub gives : OCB-ENCRYPT (AES (length k / 4) k) (length T) N A P ≡ C ++ T

-- what OCB-DECRYPT's verdict on a text S tells of the answer r and of what is left of S
abbrev pub Told : Plaintext → List ℕ → Answer → List ℕ → Type 0
Told (VALID P) S r S' = (r.number ≡ 0) × (S' ≡ P)
Told INVALID S r S' = (r.number ≡ 7) × (S' ≡ zeros (length S))

-- what a state holds are bytes, whoever made it: every State value of a program is so
pub record HoldsBytes (s : State) : Type 0 where
  pub keys : Bytes s.round_keys
  pub star : Bytes s.values.star
  pub dollar : Bytes s.values.dollar
  pub table : Bytes s.table
