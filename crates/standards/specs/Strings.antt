-- Strings of bytes and of bits, as lists of numbers: a byte is a number below 256, a bit is 0 or 1. The notation of RFC 7253, section 2.
use Rattle.std.specs.Prelude.{List, [], ◌∷◌, ◌++◌, ◌≡◌, ℕ, zero, suc, ◌+◌, ◌-◌, ◌*◌, ◌/◌, ◌%◌, ◌^◌, ◌<◌, length, get_or, take, drop, replicate}
use Rattle.std.specs.Int.Bits.{bit_xor}

-- exclusive or of two numbers, bit by bit
infixl 60 ◌⊕◌
unfoldable pub ◌⊕◌ : ℕ → ℕ → ℕ
a ⊕ b = bit_xor a b

-- S xor T, place by place. The documents take it of strings of one length; of others the result is as long as S
infixl 60 ◌xor◌
unfoldable pub ◌xor◌ : List ℕ → List ℕ → List ℕ
◌xor◌ S [] = S
◌xor◌ [] (y ∷ T) = []
◌xor◌ (x ∷ S) (y ∷ T) = (x ⊕ y) ∷ (S xor T)

-- the k lowest digits of n to a base, the highest first
unfoldable pub digits : ℕ → ℕ → ℕ → List ℕ
digits base zero n = []
digits base (suc k) n = digits base k (n / base) ++ (n % base ∷ [])

-- the number that a string of digits is, the highest first
unfoldable pub number : ℕ → List ℕ → ℕ
number base [] = 0
number base (x ∷ S) = x * base ^ length S + number base S

-- zeros(n)
abbrev pub zeros : ℕ → List ℕ
zeros n = replicate n 0

-- num2str(n, k): n in k bits
abbrev pub num2str : ℕ → ℕ → List ℕ
num2str n k = digits 2 k n

-- str2num(S), of a string of bits
abbrev pub str2num : List ℕ → ℕ
str2num = number 2

-- n in k bytes
abbrev pub to_bytes : ℕ → ℕ → List ℕ
to_bytes = digits 256

-- the number that a string of bytes is
abbrev pub num : List ℕ → ℕ
num = number 256

-- the bits of a string of bytes
unfoldable pub bits : List ℕ → List ℕ
bits [] = []
bits (x ∷ S) = num2str x 8 ++ bits S

-- the bytes of a string of bits, of which there are a multiple of eight
unfoldable pub bytes : List ℕ → List ℕ
bytes S = to_bytes (length S / 8) (str2num S)

-- S[i..j]: the places i to j, the first place being 1
abbrev pub part : List ℕ → ℕ → ℕ → List ℕ
part S i j = take (j + 1 - i) (drop (i - 1) S)

-- f 0, f 1, .. f (n - 1)
abbrev pub tabulate : ℕ → (ℕ → ℕ) → List ℕ
tabulate zero f = []
tabulate (suc n) f = f 0 ∷ tabulate n (λ i. f (suc i))

-- each number of the string is a byte
abbrev pub Bytes : List ℕ → Type 0
Bytes S = (i : ℕ) → get_or S i 0 < 256

-- sixteen bytes
pub record Block (b : List ℕ) : Type 0 where
  pub size : length b ≡ 16
  pub bytes : Bytes b
