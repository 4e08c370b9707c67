-- RFC 7253's procedures, computed over a cipher that is quick to compute, so that more sizes can be asked of them than over AES. The results, and the
-- blocks that go to the cipher, are those of the crate ocb3 0.2.0 over the same cipher. The ciphertext has the tag behind it.
use mathlib.Core.Path.{◌≡◌, refl}
use mathlib.Core.List.{List, [], ◌∷◌, ◌++◌}
use Prim.Native.Nat.{ℕ, suc, ◌+◌, ◌-◌, ◌*◌, ◌%◌}
use lib.ListN.{take, drop}
use Rattle.standards.specs.Rfc7253.{Key, keyed, OCB-ENCRYPT, OCB-ENCRYPT-inputs, Plaintext, VALID, INVALID, OCB-DECRYPT, OCB-DECRYPT-inputs}
use Rattle.examples_shared.proofs.Hex.{hex}
use Rattle.examples_shared.proofs.Opened.{OCB-opened}

-- ---- The cipher: the first byte goes to the end, and byte x in place i becomes 5 x + e3 (hex) + i, modulo 256. 205 is the inverse of 5

mixed : ℕ → List ℕ → List ℕ
mixed c [] = []
mixed c (x ∷ S) = (5 * x + c) % 256 ∷ mixed (suc c) S

unmixed : ℕ → List ℕ → List ℕ
unmixed c [] = []
unmixed c (y ∷ S) = 205 * (y + 512 - c) % 256 ∷ unmixed (suc c) S

encoded : List ℕ → List ℕ
encoded b = mixed 0xe3 (drop 1 b ++ take 1 b)

decoded : List ℕ → List ℕ
decoded b = drop 15 (unmixed 0xe3 b) ++ take 15 (unmixed 0xe3 b)

K : Key
K = keyed encoded decoded

-- on an `unfolding` line it opens the procedures and this cipher
mode_opened : Unit {0}
unfolding OCB-opened K encoded decoded mixed unmixed
mode_opened = tt

-- ---- A nonce of 6 bytes, 50 of data (three blocks and a part), 95 of text (five blocks, L_0 to L_2, and a part of 15), a tag of ten bytes

nonce_6 : List ℕ
nonce_6 = hex 6 0xf0f1f2f3f4f5

fifty : List ℕ
fifty = hex 50 0x808182838485868788898a8b8c8d8e8f909192939495969798999a9b9c9d9e9fa0a1a2a3a4a5a6a7a8a9aaabacadaeafb0b1

ninety_five : List ℕ
ninety_five = hex 95 0x000102030405060708090a0b0c0d0e0f101112131415161718191a1b1c1d1e1f202122232425262728292a2b2c2d2e2f303132333435363738393a3b3c3d3e3f404142434445464748494a4b4c4d4e4f505152535455565758595a5b5c5d5e

sealed_6 : List ℕ
sealed_6 = hex 105 0x6d4fa5e3ac8d7abe404eea96455a310d676b1773ae4164b67e02f876e711f2c7b90359cf50f1fe524c02d6bab99c4fd91d43b94b6001a6be38ea268333cb35e1cfd3bba78219d85a2612bc4fedb6247f736507518e0099da217ad305ad62a3ddd348112f1a46a65434

seals_6 : OCB-ENCRYPT K 10 nonce_6 fifty ninety_five ≡ sealed_6
unfolding nonce_6 fifty ninety_five sealed_6 mode_opened
seals_6 = refl

opens_6 : OCB-DECRYPT K 10 nonce_6 fifty sealed_6 ≡ VALID ninety_five
unfolding nonce_6 fifty ninety_five sealed_6 mode_opened
opens_6 = refl

-- the last inputs, Pad's, the tag's and HASH's, which are the same both ways
last_inputs : List (List ℕ)
last_inputs =
    hex 16 0x704010b06c97492e87b60becb09a439c
    ∷ hex 16 0xa799cb6db3568aeb407fc0217f6bb030
    ∷ hex 16 0x0f1215181b26212c273a3d30334e48ce
    ∷ hex 16 0x00252a3f34717e6b684d42575cd9d4db
    ∷ hex 16 0xbf868d949be2e9f0f7cec5dcd32a22aa
    ∷ hex 16 0x4c724ad1d8afa6bdb48b829990777df7
    ∷ []

seals_6_inputs : OCB-ENCRYPT-inputs K 10 nonce_6 fifty ninety_five
    ≡ hex 16 0xa0000000000000000001f0f1f2f3f4c0
    ∷ hex 16 0xb2cc860cceb3773a85fa5d90d3ef286e
    ∷ hex 16 0xbdfbb92be1e4287dca8d22f7bc78b47b
    ∷ hex 16 0x02581e804e77bfe6550ea57c338b420a
    ∷ hex 16 0x2c0650fe20e93158fbd06b82dc944a10
    ∷ hex 16 0xd3e5b715cf3ae6832413ac491327fc21
    ∷ last_inputs
unfolding nonce_6 fifty ninety_five last_inputs mode_opened
seals_6_inputs = refl

opens_6_inputs : OCB-DECRYPT-inputs K 10 nonce_6 fifty sealed_6
    ≡ hex 16 0xa0000000000000000001f0f1f2f3f4c0
    ∷ hex 16 0xdf8221ec663b0b83cdbdbd0d9ab8176c
    ∷ hex 16 0xca81bc4b5bb05adcac96c09a477458a3
    ∷ hex 16 0x9b7a656c3aa36793312559eda63a23fc
    ∷ hex 16 0x0174db8674dda1d1fb03773ad36241ce
    ∷ hex 16 0x5c774ef10966789e4a485a4db2dc9611
    ∷ last_inputs
unfolding nonce_6 fifty sealed_6 last_inputs mode_opened
opens_6_inputs = refl

-- ---- A nonce of 15 bytes, one block of data, two of text, a tag of sixteen bytes

nonce_15 : List ℕ
nonce_15 = hex 15 0xa1a2a3a4a5a6a7a8a9aaabacadaeaf

sixteen : List ℕ
sixteen = hex 16 0x808182838485868788898a8b8c8d8e8f

sealed_15 : List ℕ
sealed_15 = hex 32 0x031b0307cb130385a76aaac4b639adab09dfa16789d7692d311e74f484fa8ea1

-- what opening gives where the tag is T
opened_15 : List ℕ → Plaintext
opened_15 T = OCB-DECRYPT K 16 nonce_15 sixteen (sealed_15 ++ T)

opens_15 : opened_15 (hex 16 0x1a1256da427a869864a1f4fb42ca1cba) ≡ VALID (hex 32 0x000102030405060708090a0b0c0d0e0f101112131415161718191a1b1c1d1e1f)
unfolding nonce_15 sixteen sealed_15 opened_15 mode_opened
opens_15 = refl

-- one bit of the first byte, and of the last
refuses_first : opened_15 (hex 16 0x1b1256da427a869864a1f4fb42ca1cba) ≡ INVALID
unfolding nonce_15 sixteen sealed_15 opened_15 mode_opened
refuses_first = refl

refuses_last : opened_15 (hex 16 0x1a1256da427a869864a1f4fb42ca1cbb) ≡ INVALID
unfolding nonce_15 sixteen sealed_15 opened_15 mode_opened
refuses_last = refl

-- fewer bytes than a tag has
refuses_short : OCB-DECRYPT K 16 nonce_15 sixteen [] ≡ INVALID
unfolding nonce_15 sixteen mode_opened
refuses_short = refl
