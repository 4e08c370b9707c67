-- Longer examples of RFC 7253 with short tags, computed from the definitions: the sample of appendix A with a tag of 96 bits, and one with the longest
-- nonce. The ciphertext has the tag behind it.
use mathlib.Core.Path.{◌≡◌, refl}
use mathlib.Core.List.{List, [], ◌++◌}
use Prim.Native.Nat.{ℕ}
use Rattle.standards.specs.Strings.{zeros}
use Rattle.standards.specs.Fips197.{encipher, key_expansion}
use Rattle.standards.specs.Rfc7253.{Key, OCB-ENCRYPT}
use Rattle.examples_shared.proofs.Hex.{hex}
use Rattle.examples_shared.proofs.Opened.{AES-opened, OCB-opened}
use Rattle.examples_shared.proofs.Under.{Under, ready, under}

-- ---- The key 0f 0e .. 00: that of the sample

down : List ℕ
down = hex 16 0x0f0e0d0c0b0a09080706050403020100

round_keys : List ℕ
round_keys =
    hex 16 0x0f0e0d0c0b0a09080706050403020100
    ++ hex 16 0x79726e777278677f757e627b767c637b
    ++ hex 16 0x6b894f4f19f128306c8f4a4b1af32930
    ++ hex 16 0x622c4bed7bdd63dd175229960da100a6
    ++ hex 16 0x584f6f3a23920ce734c02571396125d7
    ++ hex 16 0xa770612884e26dcfb02248be89436d69
    ++ hex 16 0x9d4c988f19aef540a98cbdfe20cfd097
    ++ hex 16 0x573c10384e92e578e71e5886c7d18811
    ++ hex 16 0xe9f892fea76a778640742f0087a5a711
    ++ hex 16 0xf4a410e953ce676f13ba486f941fef7e
    ++ hex 16 0x027be3cb51b584a4420fcccbd61023b5

star : List ℕ
star = hex 16 0xe5311321918c386e63e98dff0afa770d

expanded : key_expansion 4 10 down ≡ round_keys
unfolding down round_keys AES-opened
expanded = refl

star_is : encipher 10 round_keys (zeros 16) ≡ star
unfolding round_keys star AES-opened
star_is = refl

under_down : {P : Key → Type 0} → P (ready round_keys star) → Under down P
under_down = under down round_keys star expanded star_is

-- ---- The examples

-- the sample's text, and its data: two blocks and a part (L_0, L_1, L_*)
forty : List ℕ
forty = hex 40 0x000102030405060708090a0b0c0d0e0f101112131415161718191a1b1c1d1e1f2021222324252627

tag_96 : Under down (λ K.
    OCB-ENCRYPT K 12 (hex 12 0xbbaa9988776655443322110d) forty forty
    ≡ hex 52 0x1792a4e31e0755fb03e31b22116e6c2ddf9efd6e33d536f1a0124b0a55bae884ed93481529c76b6ad0c515f4d1cdd4fdac4f02aa)
unfolding forty round_keys star OCB-opened AES-opened
tag_96 = under_down refl

-- A nonce of 15 bytes whose last six bits are set, four whole blocks (L_0, L_1, L_0, L_2), no data, a tag of six bytes. The result is OpenSSL's (AES-128-OCB of
-- 3.0.19), and the crate ocb3 0.2.0 gives the same.
nonce_15 : Under down (λ K.
    OCB-ENCRYPT K 6 (hex 15 0x112233445566778899aabbccddeeff) []
    (hex 64 0x000102030405060708090a0b0c0d0e0f101112131415161718191a1b1c1d1e1f202122232425262728292a2b2c2d2e2f303132333435363738393a3b3c3d3e3f)
    ≡ hex 70 0x438e46990ac7e29878cb5076b416ef4e75e80a8e67e33727d9c21a4fa3bc0b8ffd215292cad0a950a5e2c4fa9ec84bcfd219a2650724081a602473e35c50261cad40dc5d263e)
unfolding round_keys star OCB-opened AES-opened
nonce_15 = under_down refl
