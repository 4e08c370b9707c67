-- RFC 7253 over AES of FIPS 197: what a key of the document means. A key of nk words goes with nk + 6 rounds (FIPS 197, section 5).
use Rattle.std.specs.Prelude.{List, ℕ, ◌+◌}
use Rattle.standards.specs.Fips197.{encipher, decipher, key_expansion}
use Rattle.standards.specs.Rfc7253.{Key, keyed}

abbrev pub AES : ℕ → List ℕ → Key
AES nk k = keyed (encipher (nk + 6) (key_expansion nk (nk + 6) k)) (decipher (nk + 6) (key_expansion nk (nk + 6) k))

-- AEAD_AES_128_OCB: four words, ten rounds
abbrev pub AES-128 : List ℕ → Key
AES-128 = AES 4
