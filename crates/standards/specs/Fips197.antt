-- FIPS 197 (update 1 of 2023), the Advanced Encryption Standard, for a key of nk words and a cipher of nr rounds. Numbers in brackets are its sections.
use Rattle.std.specs.Prelude.{cond, List, [], ◌∷◌, ◌++◌, ℕ, zero, suc, ◌+◌, ◌-◌, ◌*◌, ◌/◌, ◌%◌, ◌^◌, eqb, ltb, get_or}
use Rattle.standards.specs.Strings.{◌⊕◌}

-- ---- [4] Bytes as polynomials over GF(2): bit i of a byte is the coefficient of x^i. Their sum [4.1] is ⊕.

-- b if the bit is set, else 0
abbrev pub pick : ℕ → ℕ → ℕ
pick zero b = 0
pick (suc n) b = b

-- [4.2] the product by x modulo x^8 + x^4 + x^3 + x + 1: a shift to the left by one, with 1b added where a bit is shifted out
unfoldable pub xtime : ℕ → ℕ
xtime b = pick (b / 128 % 2) 0x1b ⊕ b * 2 % 256

-- the product of the low n bits of a with b: b for the lowest bit of a, and the product of the other bits with b times x
unfoldable pub times : ℕ → ℕ → ℕ → ℕ
times zero a b = 0
times (suc n) a b = pick (a % 2) b ⊕ times n (a / 2) (xtime b)

-- [4.2] the product of two bytes
infixl 70 ◌•◌
unfoldable pub ◌•◌ : ℕ → ℕ → ℕ
a • b = times 8 a b

abbrev pub square : ℕ → ℕ
square a = a • a

-- b to the power 2^(n + 1) - 2
unfoldable pub power : ℕ → ℕ → ℕ
power zero b = 1
power (suc n) b = square (power n b • b)

-- [4.4] the inverse: b to the power 254. Of 0 it is 0, as SubBytes [5.1.1] has it
unfoldable pub inverse : ℕ → ℕ
inverse b = power 7 b

-- ---- [5.1.1] SubBytes and [5.3.2] InvSubBytes

abbrev pub bit : ℕ → ℕ → ℕ
bit b i = b / 2 ^ i % 2

-- the byte whose bit i is f i
abbrev pub of_bits : (ℕ → ℕ) → ℕ
of_bits f = f 0 + f 1 * 2 + f 2 * 4 + f 3 * 8 + f 4 * 16 + f 5 * 32 + f 6 * 64 + f 7 * 128

-- b'_i = b_i + b_(i+4) + b_(i+5) + b_(i+6) + b_(i+7) + c_i modulo 2, the places modulo 8, with c = 63
unfoldable pub affine : ℕ → ℕ
affine b =
    of_bits (λ i. (bit b i + bit b ((i + 4) % 8) + bit b ((i + 5) % 8) + bit b ((i + 6) % 8) + bit b ((i + 7) % 8) + bit 0x63 i) % 2)

unfoldable pub sbox : ℕ → ℕ
sbox b = affine (inverse b)

-- the affine map's inverse: b_i = b'_(i+2) + b'_(i+5) + b'_(i+7) + d_i, with d = 05
unfoldable pub inv_affine : ℕ → ℕ
inv_affine b = of_bits (λ i. (bit b ((i + 2) % 8) + bit b ((i + 5) % 8) + bit b ((i + 7) % 8) + bit 0x05 i) % 2)

unfoldable pub inv_sbox : ℕ → ℕ
inv_sbox b = inverse (inv_affine b)

-- ---- [3.4] The state: a list of four columns, each a list of four bytes

abbrev pub State : Type 0
State = List (List ℕ)

-- the byte in row r, column c
abbrev pub at : State → ℕ → ℕ → ℕ
at s r c = get_or (get_or s c []) r 0

abbrev pub column : (ℕ → ℕ) → List ℕ
column f = f 0 ∷ f 1 ∷ f 2 ∷ f 3 ∷ []

-- the state with f r c in row r, column c
abbrev pub state : (ℕ → ℕ → ℕ) → State
state f = column (λ r. f r 0) ∷ column (λ r. f r 1) ∷ column (λ r. f r 2) ∷ column (λ r. f r 3) ∷ []

-- a block of 16 bytes fills the state column after column
abbrev pub from_block : List ℕ → State
from_block b = state (λ r c. get_or b (r + 4 * c) 0)

abbrev pub to_block : State → List ℕ
to_block s =
    at s 0 0 ∷ at s 1 0 ∷ at s 2 0 ∷ at s 3 0 ∷ at s 0 1 ∷ at s 1 1 ∷ at s 2 1 ∷ at s 3 1
    ∷ at s 0 2 ∷ at s 1 2 ∷ at s 2 2 ∷ at s 3 2 ∷ at s 0 3 ∷ at s 1 3 ∷ at s 2 3 ∷ at s 3 3 ∷ []

-- ---- [5.1], [5.3] The steps of a round

-- a step that works on each column apart
abbrev pub columns : (List ℕ → List ℕ) → State → State
columns f s = f (get_or s 0 []) ∷ f (get_or s 1 []) ∷ f (get_or s 2 []) ∷ f (get_or s 3 []) ∷ []

-- a rule that is put to each byte of a column
abbrev pub each_byte : (ℕ → ℕ) → List ℕ → List ℕ
each_byte f a = column (λ r. f (get_or a r 0))

abbrev pub sub_bytes : State → State
sub_bytes = columns (each_byte sbox)

abbrev pub inv_sub_bytes : State → State
inv_sub_bytes = columns (each_byte inv_sbox)

-- [5.1.2] row r goes r places to the left; [5.3.1] to the right
abbrev pub shift_rows : State → State
shift_rows s = state (λ r c. at s r ((c + r) % 4))

abbrev pub inv_shift_rows : State → State
inv_shift_rows s = state (λ r c. at s r ((c + 4 - r) % 4))

-- a row of a matrix on a column [4.3]
unfoldable pub row : ℕ → ℕ → ℕ → ℕ → ℕ → ℕ → ℕ → ℕ → ℕ
row k₀ k₁ k₂ k₃ a b c d = k₀ • a ⊕ k₁ • b ⊕ k₂ • c ⊕ k₃ • d

-- the matrix with the first row k₀ k₁ k₂ k₃, whose every other row is the one above turned one place to the right, on a column
abbrev pub circulant : ℕ → ℕ → ℕ → ℕ → List ℕ → List ℕ
circulant k₀ k₁ k₂ k₃ a =
    column (λ r. row k₀ k₁ k₂ k₃ (get_or a r 0) (get_or a ((r + 1) % 4) 0) (get_or a ((r + 2) % 4) 0) (get_or a ((r + 3) % 4) 0))

-- [5.1.3]
abbrev pub mix_column : List ℕ → List ℕ
mix_column = circulant 0x02 0x03 0x01 0x01

abbrev pub mix_columns : State → State
mix_columns = columns mix_column

-- [5.3.3]
abbrev pub inv_mix_column : List ℕ → List ℕ
inv_mix_column = circulant 0x0e 0x0b 0x0d 0x09

abbrev pub inv_mix_columns : State → State
inv_mix_columns = columns inv_mix_column

-- word j of a key schedule w, a list of bytes, four to a word
abbrev pub word : List ℕ → ℕ → List ℕ
word w j = get_or w (4 * j) 0 ∷ get_or w (4 * j + 1) 0 ∷ get_or w (4 * j + 2) 0 ∷ get_or w (4 * j + 3) 0 ∷ []

abbrev pub add_column : List ℕ → List ℕ → List ℕ
add_column a k = column (λ r. get_or a r 0 ⊕ get_or k r 0)

abbrev pub add_state : State → State → State
add_state s k =
    add_column (get_or s 0 []) (get_or k 0 []) ∷ add_column (get_or s 1 []) (get_or k 1 [])
    ∷ add_column (get_or s 2 []) (get_or k 2 []) ∷ add_column (get_or s 3 []) (get_or k 3 []) ∷ []

-- the round key of round i: words 4 i to 4 i + 3, one for each column
abbrev pub round_key : List ℕ → ℕ → State
round_key w i = word w (4 * i) ∷ word w (4 * i + 1) ∷ word w (4 * i + 2) ∷ word w (4 * i + 3) ∷ []

-- [5.1.4], which is its own inverse [5.3.4]
abbrev pub add_round_key : List ℕ → ℕ → State → State
add_round_key w i s = add_state s (round_key w i)

-- ---- [5.1] CIPHER and [5.3] INVCIPHER

-- rounds 1 to i
unfoldable pub rounds : List ℕ → ℕ → State → State
rounds w zero s = s
rounds w (suc i) s = add_round_key w (suc i) (mix_columns (shift_rows (sub_bytes (rounds w i s))))

-- nr rounds, of which the last has no mix_columns
unfoldable pub cipher : List ℕ → ℕ → State → State
cipher w nr s = add_round_key w nr (shift_rows (sub_bytes (rounds w (nr - 1) (add_round_key w 0 s))))

-- rounds i to 1 of the inverse
unfoldable pub inv_rounds : List ℕ → ℕ → State → State
inv_rounds w zero s = s
inv_rounds w (suc i) s = inv_rounds w i (inv_mix_columns (add_round_key w (suc i) (inv_sub_bytes (inv_shift_rows s))))

unfoldable pub inv_cipher : List ℕ → ℕ → State → State
inv_cipher w nr s = add_round_key w 0 (inv_sub_bytes (inv_shift_rows (inv_rounds w (nr - 1) (add_round_key w nr s))))

-- on a block of 16 bytes
unfoldable pub encipher : ℕ → List ℕ → List ℕ → List ℕ
encipher nr w b = to_block (cipher w nr (from_block b))

unfoldable pub decipher : ℕ → List ℕ → List ℕ → List ℕ
decipher nr w b = to_block (inv_cipher w nr (from_block b))

-- ---- [5.2] KEYEXPANSION

-- the round constant Rcon[i + 1]: 1 doubled i times
unfoldable pub rcon : ℕ → ℕ
rcon zero = 1
rcon (suc i) = xtime (rcon i)

-- Rcon[j], for j from 1, as a word
abbrev pub rcon_word : ℕ → List ℕ
rcon_word j = rcon (j - 1) ∷ 0 ∷ 0 ∷ 0 ∷ []

abbrev pub rot_word : List ℕ → List ℕ
rot_word a = get_or a 1 0 ∷ get_or a 2 0 ∷ get_or a 3 0 ∷ get_or a 0 0 ∷ []

abbrev pub sub_word : List ℕ → List ℕ
sub_word = each_byte sbox

-- temp, of w[i-1]: turned at each multiple of nk and, for keys of more than six words, only substituted four words behind one
abbrev pub temp : ℕ → ℕ → List ℕ → List ℕ
temp nk i t =
    cond (eqb (i % nk) 0) (add_column (sub_word (rot_word t)) (rcon_word (i / nk)))
    (cond (ltb 6 nk) (cond (eqb (i % nk) 4) (sub_word t) t) t)

-- w[i] = w[i-nk] + temp
unfoldable pub next_word : ℕ → List ℕ → ℕ → List ℕ
next_word nk w i = add_column (word w (i - nk)) (temp nk i (word w (i - 1)))

-- the key, and n words more
unfoldable pub schedule : ℕ → List ℕ → ℕ → List ℕ
schedule nk key zero = key
schedule nk key (suc n) = schedule nk key n ++ next_word nk (schedule nk key n) (nk + n)

-- the 4 (nr + 1) words that nr rounds take
unfoldable pub key_expansion : ℕ → ℕ → List ℕ → List ℕ
key_expansion nk nr key = schedule nk key (4 * (nr + 1) - nk)
