-- FIPS 197, appendix C: its examples with keys of 128, 192 and 256 bits, both ways, computed from the definitions.
use mathlib.Core.Path.{◌≡◌, refl}
use mathlib.Core.List.{List}
use Prim.Native.Nat.{ℕ, ◌+◌}
use Rattle.standards.specs.Fips197.{encipher, decipher, key_expansion}
use Rattle.examples_shared.proofs.Hex.{hex}
use Rattle.examples_shared.proofs.Opened.{AES-opened}

-- the plaintext of all three
plain : List ℕ
plain = hex 16 0x00112233445566778899aabbccddeeff

-- a key of nk words, for nk + 6 rounds, turns `plain` into `coded`, and back
abbrev Coded : ℕ → List ℕ → List ℕ → Type 0
Coded nk key coded =
    let w : List ℕ = key_expansion nk (nk + 6) key in
    (encipher (nk + 6) w plain ≡ coded) × (decipher (nk + 6) w coded ≡ plain)

C1 : Coded 4 (hex 16 0x000102030405060708090a0b0c0d0e0f) (hex 16 0x69c4e0d86a7b0430d8cdb78070b4c55a)
unfolding plain AES-opened
C1 = (refl, refl)

C2 : Coded 6 (hex 24 0x000102030405060708090a0b0c0d0e0f1011121314151617) (hex 16 0xdda97ca4864cdfe06eaf70a0ec0d7191)
unfolding plain AES-opened
C2 = (refl, refl)

C3 : Coded 8 (hex 32 0x000102030405060708090a0b0c0d0e0f101112131415161718191a1b1c1d1e1f) (hex 16 0x8ea2b7ca516745bfeafc49904b496089)
unfolding plain AES-opened
C3 = (refl, refl)
