-- RFC 7253, appendix A: samples with a tag of 128 bits, computed from the definitions. A sample is named by the last byte of its nonce; the ciphertext has
-- the tag behind it.
use mathlib.Core.Path.{◌≡◌, refl}
use mathlib.Core.List.{List, [], ◌++◌}
use Prim.Native.Nat.{ℕ, ◌+◌}
use Rattle.standards.specs.Strings.{zeros}
use Rattle.standards.specs.Fips197.{encipher, key_expansion}
use Rattle.standards.specs.Rfc7253.{Key, OCB-ENCRYPT, VALID, OCB-DECRYPT}
use Rattle.examples_shared.proofs.Hex.{hex}
use Rattle.examples_shared.proofs.Opened.{AES-opened, OCB-opened}
use Rattle.examples_shared.proofs.Under.{Under, ready, under}

-- ---- The key 00 01 .. 0f: it is also FIPS 197's of C.1, where its round keys are printed as k_sch

up : List ℕ
up = hex 16 0x000102030405060708090a0b0c0d0e0f

round_keys : List ℕ
round_keys =
    hex 16 0x000102030405060708090a0b0c0d0e0f
    ++ hex 16 0xd6aa74fdd2af72fadaa678f1d6ab76fe
    ++ hex 16 0xb692cf0b643dbdf1be9bc5006830b3fe
    ++ hex 16 0xb6ff744ed2c2c9bf6c590cbf0469bf41
    ++ hex 16 0x47f7f7bc95353e03f96c32bcfd058dfd
    ++ hex 16 0x3caaa3e8a99f9deb50f3af57adf622aa
    ++ hex 16 0x5e390f7df7a69296a7553dc10aa31f6b
    ++ hex 16 0x14f9701ae35fe28c440adf4d4ea9c026
    ++ hex 16 0x47438735a41c65b9e016baf4aebf7ad2
    ++ hex 16 0x549932d1f08557681093ed9cbe2c974e
    ++ hex 16 0x13111d7fe3944a17f307a78b4d2b30c5

star : List ℕ
star = hex 16 0xc6a13b37878f5b826f4f8162a1c8d879

expanded : key_expansion 4 10 up ≡ round_keys
unfolding up round_keys AES-opened
expanded = refl

star_is : encipher 10 round_keys (zeros 16) ≡ star
unfolding round_keys star AES-opened
star_is = refl

under_up : {P : Key → Type 0} → P (ready round_keys star) → Under up P
under_up = under up round_keys star expanded star_is

-- ---- The samples

-- bb aa .. 22 11, and the sample's number
nonce : ℕ → List ℕ
nonce n = hex 12 (0xbbaa99887766554433221100 + n)

-- nothing, with no data
sample_00 : Under up (λ K. OCB-ENCRYPT K 16 (nonce 0x00) [] [] ≡ hex 16 0x785407bfffc8ad9edcc5520ac9111ee6)
unfolding nonce round_keys star OCB-opened AES-opened
sample_00 = under_up refl

-- a part of a block, with as much data
sample_01 : Under up (λ K.
    OCB-ENCRYPT K 16 (nonce 0x01) (hex 8 0x0001020304050607) (hex 8 0x0001020304050607) ≡ hex 24 0x6820b3657b6f615a5725bda0d3b4eb3a257c9af1f8f03009)
unfolding nonce round_keys star OCB-opened AES-opened
sample_01 = under_up refl

-- a block and a part, with no data, opened
sample_09 : Under up (λ K.
    OCB-DECRYPT K 16 (nonce 0x09) [] (hex 40 0x221bd0de7fa6fe993eccd769460a0af2d6cded0c395b1c3ce725f32494b9f914d85c0b1eb38357ff)
    ≡ VALID (hex 24 0x000102030405060708090a0b0c0d0e0f1011121314151617))
unfolding nonce round_keys star OCB-opened AES-opened
sample_09 = under_up refl
