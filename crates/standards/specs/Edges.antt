-- Both sides of each edge: P1 to P14 of the product's paper, one theorem over one table of questions and results. A question is a string of bytes or
-- numbers that the definitions compute; a result is the paper's. K is any key. Where RFC 7253 is said twice, in bits and in bytes, a row asks both.
use Rattle.std.specs.Prelude.{List, [], ◌∷◌, ◌++◌, ◌≡◌, refl, ℕ, length, get_or, replicate}
use Rattle.std.specs.Int.Count.{count_trailing_zeros}
use Rattle.standards.specs.Strings.{◌⊕◌, ◌xor◌, digits, number, zeros, bits, bytes}
use Rattle.standards.specs.Fips197.{xtime, times, ◌•◌, power, inverse, affine, sbox}
use Rattle.standards.specs.Rfc7253.{ntz, double, Key, Nonce, bottom, Stretch, cut, wholes, rest, Inputs, last_input, last_hash_input, HASH-inputs, inputs, OCB-ENCRYPT-inputs}
use Rattle.standards.specs.InBytes.{nonce_front, nonce_block, bottom_of, stretch_of, cut_of}

pub record Row : Type 0 where
  pub question : List ℕ
  pub result : List ℕ

infix 50 ◌gives◌
abbrev ◌gives◌ : List ℕ → List ℕ → Row
q gives r = record { question = q; result = r }

-- each row's question is its result
abbrev pub Hold : List Row → Type 0
Hold [] = Unit
Hold (row ∷ rows) = (row.question ≡ row.result) × Hold rows

-- byte 0 of the nonce block of n zero bytes with a tag of t, in bytes and in bits
abbrev byte0 : ℕ → ℕ → List ℕ
byte0 t n = get_or (nonce_block t (zeros n)) 0 0 ∷ get_or (bytes (Nonce t (zeros n))) 0 0 ∷ []

-- a nonce of 12 bytes with the last one x
abbrev ending_in : ℕ → List ℕ
ending_in x = zeros 11 ++ (x ∷ [])

abbrev bottoms : ℕ → List ℕ
bottoms x = bottom_of (nonce_block 16 (ending_in x)) ∷ bottom 16 (ending_in x) ∷ []

-- how many blocks go to the cipher for a text of p bytes and data of a
abbrev calls : Key → ℕ → ℕ → ℕ
calls K p a = length (OCB-ENCRYPT-inputs K 16 (zeros 12) (zeros a) (zeros p))

-- 00 01 .. 0f, and 00 01 .. 17
abbrev up16 : List ℕ
up16 = 0x00 ∷ 0x01 ∷ 0x02 ∷ 0x03 ∷ 0x04 ∷ 0x05 ∷ 0x06 ∷ 0x07 ∷ 0x08 ∷ 0x09 ∷ 0x0a ∷ 0x0b ∷ 0x0c ∷ 0x0d ∷ 0x0e ∷ 0x0f ∷ []

abbrev up24 : List ℕ
up24 = up16 ++ (0x10 ∷ 0x11 ∷ 0x12 ∷ 0x13 ∷ 0x14 ∷ 0x15 ∷ 0x16 ∷ 0x17 ∷ [])

-- the first and the last byte
abbrev ends : List ℕ → List ℕ
ends S = get_or S 0 0 ∷ get_or S 15 0 ∷ []

pub edges : Key → List Row
edges K =
    -- P1, P2, P3: doubling
    (double (zeros 16) gives zeros 16)
    ∷ (double (0x80 ∷ zeros 15) gives zeros 15 ++ (0x87 ∷ []))
    ∷ (double (replicate 16 0xff) gives replicate 15 0xff ++ (0x79 ∷ []))
    -- P4: trailing zeros
    ∷ (ntz 1 ∷ ntz 6 ∷ ntz 8 ∷ [] gives 0 ∷ 1 ∷ 3 ∷ [])
    -- P5: byte 0, nonce 12, tag 16 / 12 / 1
    ∷ (byte0 16 12 ++ byte0 12 12 ++ byte0 1 12 gives 0x00 ∷ 0x00 ∷ 0xc0 ∷ 0xc0 ∷ 0x10 ∷ 0x10 ∷ [])
    -- P6: byte 0, nonce 15, tag 16 / 12
    ∷ (byte0 16 15 ++ byte0 12 15 gives 0x01 ∷ 0x01 ∷ 0xc1 ∷ 0xc1 ∷ [])
    -- P7: the marker of a nonce of 6 bytes stands in byte 9 and nowhere else
    ∷ (nonce_block 16 (zeros 6) gives zeros 9 ++ (0x01 ∷ zeros 6))
    ∷ (bytes (Nonce 16 (zeros 6)) gives zeros 9 ++ (0x01 ∷ zeros 6))
    -- P8: the last nonce byte 40 / ff
    ∷ (bottoms 0x40 ++ bottoms 0xff gives 0 ∷ 0 ∷ 63 ∷ 63 ∷ [])
    -- P9, P10, P11: cut from 00 01 .. 17
    ∷ (cut_of up24 0 gives up16)
    ∷ (cut (bits up24) 0 gives up16)
    ∷ (cut_of up24 8 gives 0x01 ∷ 0x02 ∷ 0x03 ∷ 0x04 ∷ 0x05 ∷ 0x06 ∷ 0x07 ∷ 0x08 ∷ 0x09 ∷ 0x0a ∷ 0x0b ∷ 0x0c ∷ 0x0d ∷ 0x0e ∷ 0x0f ∷ 0x10 ∷ [])
    ∷ (cut (bits up24) 8 gives 0x01 ∷ 0x02 ∷ 0x03 ∷ 0x04 ∷ 0x05 ∷ 0x06 ∷ 0x07 ∷ 0x08 ∷ 0x09 ∷ 0x0a ∷ 0x0b ∷ 0x0c ∷ 0x0d ∷ 0x0e ∷ 0x0f ∷ 0x10 ∷ [])
    ∷ (ends (cut_of up24 63) ++ ends (cut (bits up24) 63) gives 0x84 ∷ 0x0b ∷ 0x84 ∷ 0x0b ∷ [])
    -- beside P9 to P11, which start from a Stretch: Stretch of 00 01 .. 0f, each neighbour the original one
    ∷ (stretch_of up16 gives up16 ++ (0x01 ∷ 0x03 ∷ 0x01 ∷ 0x07 ∷ 0x01 ∷ 0x03 ∷ 0x01 ∷ 0x0f ∷ []))
    ∷ (bytes (Stretch up16) gives up16 ++ (0x01 ∷ 0x03 ∷ 0x01 ∷ 0x07 ∷ 0x01 ∷ 0x03 ∷ 0x01 ∷ 0x0f ∷ []))
    -- P12: calls for text/data 0/0, 1/0, 16/0, 33/1
    ∷ (calls K 0 0 ∷ calls K 1 0 ∷ calls K 16 0 ∷ calls K 33 1 ∷ [] gives 2 ∷ 3 ∷ 3 ∷ 6 ∷ [])
    -- P13: S-box of 00 / of 53
    ∷ (sbox 0x00 ∷ sbox 0x53 ∷ [] gives 0x63 ∷ 0xed ∷ [])
    -- P14: field product 57 by 13
    ∷ (0x57 • 0x13 ∷ [] gives 0xfe ∷ [])
    ∷ []

pub edges_hold : (K : Key) → Hold (edges K)
unfolding edges double ntz count_trailing_zeros Nonce bottom Stretch cut nonce_front nonce_block bottom_of stretch_of cut_of
    wholes rest Inputs last_input last_hash_input HASH-inputs inputs OCB-ENCRYPT-inputs
    ◌⊕◌ ◌xor◌ digits number bits bytes xtime times ◌•◌ power inverse affine sbox
edges_hold K =
    (refl, (refl, (refl, (refl, (refl, (refl, (refl, (refl, (refl, (refl, (refl, (refl, (refl, (refl, (refl, (refl, (refl, (refl, (refl, tt)))))))))))))))))))
