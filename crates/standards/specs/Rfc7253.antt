-- RFC 7253, the OCB authenticated-encryption algorithm, in its own names, over strings of bytes. Numbers in brackets are its sections.
-- Beside each result stands the list of the blocks that its procedure hands to the cipher, in order. t is the tag's length in bytes.
use Rattle.std.specs.Prelude.{Bool, true, false, ◌&&◌, List, [], ◌∷◌, ◌++◌, ℕ, zero, suc, ◌+◌, ◌-◌, ◌*◌, ◌/◌, ◌%◌, ◌^◌, eqb, length, take, drop}
use Rattle.std.specs.Int.Count.{count_trailing_zeros}
use Rattle.standards.specs.Strings.{◌⊕◌, ◌xor◌, zeros, num2str, str2num, to_bytes, num, bits, bytes, part}

-- ---- [2] Notation

-- ntz(n), for n from 1: a number n has fewer than n trailing zero bits
unfoldable pub ntz : ℕ → ℕ
ntz n = count_trailing_zeros n n

-- double(S): S shifted left by one bit, and 87 (hex) xored in for the bit that is lost
unfoldable pub double : List ℕ → List ℕ
double S = to_bytes 16 (num S * 2 % 2 ^ 128 ⊕ num S * 2 / 2 ^ 128 * 0x87)

-- ---- What the procedures take from a key K: the two directions of the cipher, L_*, L_$ and L_0, L_1, ..

pub record Key : Type 0 where
  pub ENCIPHER : List ℕ → List ℕ
  pub DECIPHER : List ℕ → List ℕ
  pub L-* : List ℕ
  pub L-$ : List ℕ
  pub L : ℕ → List ℕ

-- [4.1] a key's own: L_* = ENCIPHER(K, zeros(128)), L_$ = double(L_*), L_0 = double(L_$), L_i = double(L_{i-1})
unfoldable pub doubled : ℕ → List ℕ → List ℕ
doubled zero S = S
doubled (suc i) S = double (doubled i S)

abbrev pub keyed : (List ℕ → List ℕ) → (List ℕ → List ℕ) → Key
keyed E D = record {
  ENCIPHER = E;
  DECIPHER = D;
  L-* = E (zeros 16);
  L-$ = double (E (zeros 16));
  L = λ i. doubled (suc i) (double (E (zeros 16)));
}

-- ---- [4.2] Nonce-dependent variables. They are strings of bits; InBytes.antt says them in bytes, as the code has them

-- Nonce = num2str(TAGLEN mod 128, 7) || zeros(120 - bitlen(N)) || 1 || N
unfoldable pub Nonce : ℕ → List ℕ → List ℕ
Nonce t N = num2str (8 * t % 128) 7 ++ (zeros (120 - 8 * length N) ++ (1 ∷ bits N))

-- bottom = str2num(Nonce[123..128])
unfoldable pub bottom : ℕ → List ℕ → ℕ
bottom t N = str2num (part (Nonce t N) 123 128)

-- what Ktop is the cipher of: Nonce[1..122] || zeros(6)
unfoldable pub top : ℕ → List ℕ → List ℕ
top t N = bytes (part (Nonce t N) 1 122 ++ zeros 6)

-- Stretch = Ktop || (Ktop[1..64] xor Ktop[9..72])
unfoldable pub Stretch : List ℕ → List ℕ
Stretch Ktop = bits Ktop ++ (part (bits Ktop) 1 64 xor part (bits Ktop) 9 72)

-- Stretch[1+bottom..128+bottom]
unfoldable pub cut : List ℕ → ℕ → List ℕ
cut Stretch bottom = bytes (part Stretch (1 + bottom) (128 + bottom))

-- Offset_0, with Ktop = ENCIPHER(K, Nonce[1..122] || zeros(6))
unfoldable pub Offset-0 : Key → ℕ → List ℕ → List ℕ
Offset-0 K t N = cut (Stretch (K.ENCIPHER (top t N))) (bottom t N)

-- ---- Strings as blocks: S is S_1 || .. || S_m || S_*

-- m, how many whole blocks there are
unfoldable pub wholes : List ℕ → ℕ
wholes S = length S / 16

-- S_{i+1}: blocks are counted from 0 here
unfoldable pub block_at : List ℕ → ℕ → List ℕ
block_at S i = take 16 (drop (i * 16) S)

-- S_*
unfoldable pub rest : List ℕ → List ℕ
rest S = drop (wholes S * 16) S

-- S_* || 1 || zeros(127 - bitlen(S_*))
unfoldable pub padded : List ℕ → List ℕ
padded S = S ++ (0x80 ∷ zeros (15 - length S))

-- ---- Process any whole blocks [4.1, 4.2, 4.3]. O is Offset_0.

-- Offset_i = Offset_{i-1} xor L_{ntz(i)}
unfoldable pub Offset : Key → List ℕ → ℕ → List ℕ
Offset K O zero = O
Offset K O (suc i) = Offset K O i xor K.L (ntz (suc i))

-- C_i = Offset_i xor ENCIPHER(K, P_i xor Offset_i)
unfoldable pub seal_block : Key → List ℕ → List ℕ → List ℕ
seal_block K Offset P = Offset xor K.ENCIPHER (P xor Offset)

-- P_i = Offset_i xor DECIPHER(K, C_i xor Offset_i)
unfoldable pub open_block : Key → List ℕ → List ℕ → List ℕ
open_block K Offset C = Offset xor K.DECIPHER (C xor Offset)

-- ENCIPHER(K, A_i xor Offset_i)
unfoldable pub hash_block : Key → List ℕ → List ℕ → List ℕ
hash_block K Offset A = K.ENCIPHER (A xor Offset)

-- P_i itself, which the checksum takes when P is sealed
abbrev pub plain_block : List ℕ → List ℕ → List ℕ
plain_block Offset P = P

-- the first i blocks, where f makes block i of Offset_i and S_i
unfoldable pub Blocks : (List ℕ → List ℕ → List ℕ) → Key → List ℕ → List ℕ → ℕ → List ℕ
Blocks f K O S zero = []
Blocks f K O S (suc i) = Blocks f K O S i ++ f (Offset K O (suc i)) (block_at S i)

-- Checksum_i and HASH's Sum_i: the xor of what g makes of Offset_i and S_i
unfoldable pub Sum : (List ℕ → List ℕ → List ℕ) → Key → List ℕ → List ℕ → ℕ → List ℕ
Sum g K O S zero = zeros 16
Sum g K O S (suc i) = Sum g K O S i xor g (Offset K O (suc i)) (block_at S i)

-- the cipher's inputs: S_i xor Offset_i
unfoldable pub Inputs : Key → List ℕ → List ℕ → ℕ → List (List ℕ)
Inputs K O S zero = []
Inputs K O S (suc i) = Inputs K O S i ++ ((block_at S i xor Offset K O (suc i)) ∷ [])

-- ---- Process any final partial block [4.1, 4.2, 4.3]: where S_* is empty there is none. O is Offset_m.

-- Offset_* = Offset_m xor L_*
unfoldable pub last_offset : Key → List ℕ → List ℕ → List ℕ
last_offset K O [] = O
last_offset K O (x ∷ S) = O xor K.L-*

-- C_* = P_* xor Pad[1..bitlen(P_*)], with Pad = ENCIPHER(K, Offset_*); and P_* from C_* in the same way
unfoldable pub last_text : Key → List ℕ → List ℕ → List ℕ
last_text K O S = S xor take (length S) (K.ENCIPHER (O xor K.L-*))

-- Checksum_* = Checksum_m xor (P_* || 1 || zeros(127 - bitlen(P_*)))
unfoldable pub last_sum : List ℕ → List ℕ → List ℕ
last_sum Checksum [] = Checksum
last_sum Checksum (x ∷ P) = Checksum xor padded (x ∷ P)

unfoldable pub last_input : Key → List ℕ → List ℕ → List (List ℕ)
last_input K O [] = []
last_input K O (x ∷ S) = (O xor K.L-*) ∷ []

-- Sum = Sum_m xor ENCIPHER(K, (A_* || 1 || zeros(127 - bitlen(A_*))) xor Offset_*)
unfoldable pub last_hash : Key → List ℕ → List ℕ → List ℕ → List ℕ
last_hash K O Sum [] = Sum
last_hash K O Sum (x ∷ A) = Sum xor K.ENCIPHER (padded (x ∷ A) xor (O xor K.L-*))

unfoldable pub last_hash_input : Key → List ℕ → List ℕ → List (List ℕ)
last_hash_input K O [] = []
last_hash_input K O (x ∷ A) = (padded (x ∷ A) xor (O xor K.L-*)) ∷ []

-- ---- [4.1] HASH(K, A), from a zero offset

unfoldable pub HASH : Key → List ℕ → List ℕ
HASH K A = last_hash K (Offset K (zeros 16) (wholes A)) (Sum (hash_block K) K (zeros 16) A (wholes A)) (rest A)

unfoldable pub HASH-inputs : Key → List ℕ → List (List ℕ)
HASH-inputs K A = Inputs K (zeros 16) A (wholes A) ++ last_hash_input K (Offset K (zeros 16) (wholes A)) (rest A)

-- ---- The whole text, from Offset_0

-- f makes the whole blocks
unfoldable pub text : (Key → List ℕ → List ℕ → List ℕ) → Key → List ℕ → List ℕ → List ℕ
text f K O S = Blocks (f K) K O S (wholes S) ++ last_text K (Offset K O (wholes S)) (rest S)

-- the offset that goes into the tag
unfoldable pub end_offset : Key → List ℕ → List ℕ → List ℕ
end_offset K O S = last_offset K (Offset K O (wholes S)) (rest S)

-- the checksum that goes into the tag, of the plaintext P, and of the plaintext of a ciphertext C
unfoldable pub seal_sum : Key → List ℕ → List ℕ → List ℕ
seal_sum K O P = last_sum (Sum plain_block K O P (wholes P)) (rest P)

unfoldable pub open_sum : Key → List ℕ → List ℕ → List ℕ
open_sum K O C = last_sum (Sum (open_block K) K O C (wholes C)) (last_text K (Offset K O (wholes C)) (rest C))

-- Tag = ENCIPHER(K, Checksum xor Offset xor L_$) xor HASH(K, A)
unfoldable pub Tag : Key → List ℕ → List ℕ → List ℕ → List ℕ
Tag K Checksum Offset A = K.ENCIPHER (Checksum xor Offset xor K.L-$) xor HASH K A

-- all the cipher's inputs: Ktop's, the whole blocks', the last part's, the tag's, HASH's
unfoldable pub inputs : Key → ℕ → List ℕ → List ℕ → List ℕ → List ℕ → List ℕ → List (List ℕ)
inputs K t N A O S Checksum =
    (top t N ∷ Inputs K O S (wholes S))
    ++ (last_input K (Offset K O (wholes S)) (rest S)
    ++ ((Checksum xor end_offset K O S xor K.L-$) ∷ HASH-inputs K A))

-- ---- [4.2] OCB-ENCRYPT(K, N, A, P): C_1 || .. || C_m || C_* || Tag[1..TAGLEN]

unfoldable pub OCB-ENCRYPT : Key → ℕ → List ℕ → List ℕ → List ℕ → List ℕ
OCB-ENCRYPT K t N A P =
    let O : List ℕ = Offset-0 K t N in
    text seal_block K O P ++ take t (Tag K (seal_sum K O P) (end_offset K O P) A)

unfoldable pub OCB-ENCRYPT-inputs : Key → ℕ → List ℕ → List ℕ → List ℕ → List (List ℕ)
OCB-ENCRYPT-inputs K t N A P =
    let O : List ℕ = Offset-0 K t N in
    inputs K t N A O P (seal_sum K O P)

-- ---- [4.3] OCB-DECRYPT(K, N, A, C): the plaintext, or INVALID

pub data Plaintext : Type 0 where
  VALID : List ℕ → Plaintext
  INVALID : Plaintext

-- whether two strings are the same
unfoldable pub same : List ℕ → List ℕ → Bool
same [] [] = true
same [] (y ∷ T) = false
same (x ∷ S) [] = false
same (x ∷ S) (y ∷ T) = eqb x y && same S T

abbrev pub valid_if : Bool → List ℕ → Plaintext
valid_if true P = VALID P
valid_if false P = INVALID

-- C is the ciphertext, T the tag that stands behind it
unfoldable pub decrypted : Key → ℕ → List ℕ → List ℕ → List ℕ → List ℕ → Plaintext
decrypted K t N A C T =
    let O : List ℕ = Offset-0 K t N in
    valid_if (same (take t (Tag K (open_sum K O C) (end_offset K O C) A)) T) (text open_block K O C)

unfoldable pub OCB-DECRYPT : Key → ℕ → List ℕ → List ℕ → List ℕ → Plaintext
OCB-DECRYPT K t N A C = decrypted K t N A (take (length C - t) C) (drop (length C - t) C)

unfoldable pub OCB-DECRYPT-inputs : Key → ℕ → List ℕ → List ℕ → List ℕ → List (List ℕ)
OCB-DECRYPT-inputs K t N A C =
    let O : List ℕ = Offset-0 K t N in
    inputs K t N A O (take (length C - t) C) (open_sum K O (take (length C - t) C))
