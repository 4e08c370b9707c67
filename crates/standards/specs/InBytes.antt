-- RFC 7253's nonce-dependent variables [4.2] in bytes, as the paper says them and the code has them. Nobody has to believe this page: it is
-- proved equal to the RFC's own reading in bits (Rfc7253.antt) by ocb_laws/proofs/Readings.antt. t is the tag's length in bytes.
use Rattle.std.specs.Prelude.{List, ◌∷◌, ◌++◌, ℕ, ◌-◌, ◌*◌, ◌/◌, ◌%◌, ◌^◌, length, get_or, take, drop, set}
use Rattle.std.specs.Int.Bits.{bit_or}
use Rattle.standards.specs.Strings.{◌xor◌, zeros, to_bytes, num}

-- twice (8 t mod 128), zeros, and the nonce; the byte before the nonce has its lowest bit set
unfoldable pub nonce_front : ℕ → ℕ → List ℕ
nonce_front t n =
    let front : List ℕ = 8 * t % 128 * 2 ∷ zeros (15 - n) in
    set front (15 - n) (bit_or (get_or front (15 - n) 0) 1)

unfoldable pub nonce_block : ℕ → List ℕ → List ℕ
nonce_block t N = nonce_front t (length N) ++ N

-- the low six bits of byte 15; the block with them cleared
unfoldable pub bottom_of : List ℕ → ℕ
bottom_of b = get_or b 15 0 % 64

unfoldable pub top_of : List ℕ → List ℕ
top_of b = set b 15 (get_or b 15 0 / 64 * 64)

-- Ktop, then each of its bytes 0 to 7 xored with its right neighbour
unfoldable pub stretch_of : List ℕ → List ℕ
stretch_of Ktop = Ktop ++ (take 8 Ktop xor take 8 (drop 1 Ktop))

-- the 128 bits behind the first `bottom` of Stretch's 192
unfoldable pub cut_of : List ℕ → ℕ → List ℕ
cut_of stretch bottom = to_bytes 16 (num stretch / 2 ^ (64 - bottom) % 2 ^ 128)

-- Offset_0, of which the cipher's forward direction E is all that a key gives
unfoldable pub initial_offset : (List ℕ → List ℕ) → ℕ → List ℕ → List ℕ
initial_offset E t N = cut_of (stretch_of (E (top_of (nonce_block t N)))) (bottom_of (nonce_block t N))
