-- An answer as the test program writes it, in ASCII: one line with the number and the count, then the text and the tag in lowercase hex, a line each.
use Rattle.std.specs.Prelude.{◌≡◌, cond, List, [], ◌∷◌, ◌++◌, ℕ, zero, suc, ◌+◌, ◌/◌, ◌%◌, ltb, length, take, drop}
use Rattle.io.specs.Digits.{hex_digit_ascii}

-- two digits to a byte
unfoldable pub hex : List ℕ → List ℕ
hex [] = []
hex (b ∷ S) = hex_digit_ascii (b / 16) ∷ hex_digit_ascii (b % 16) ∷ hex S

-- a number in at most k decimal digits, and no more than it has
unfoldable pub decimal_in : ℕ → ℕ → List ℕ
decimal_in zero n = []
decimal_in (suc k) n = cond (ltb n 10) (hex_digit_ascii n ∷ []) (decimal_in k (n / 10) ++ (hex_digit_ascii (n % 10) ∷ []))

-- of a number of a machine word, which has at most 20 digits
abbrev pub decimal : ℕ → List ℕ
decimal n = decimal_in 20 n

abbrev pub newline : List ℕ
newline = 10 ∷ []

-- "answer " and " calls "
abbrev pub answer_word : List ℕ
answer_word = 97 ∷ 110 ∷ 115 ∷ 119 ∷ 101 ∷ 114 ∷ 32 ∷ []

abbrev pub calls_word : List ℕ
calls_word = 32 ∷ 99 ∷ 97 ∷ 108 ∷ 108 ∷ 115 ∷ 32 ∷ []

-- a number in decimal behind a word
abbrev pub named : List ℕ → ℕ → List ℕ
named word n = word ++ decimal n

abbrev pub numbers_line : ℕ → ℕ → List ℕ
numbers_line number calls = named answer_word number ++ named calls_word calls ++ newline

abbrev pub hex_line : List ℕ → List ℕ
hex_line S = hex S ++ newline

-- the three lines: the number and the count, the text, the tag
unfoldable pub lines : ℕ → ℕ → List ℕ → List ℕ → List ℕ
lines number calls text tag = numbers_line number calls ++ hex_line text ++ hex_line tag

-- d with S over its bytes from place at on
abbrev pub over : List ℕ → ℕ → List ℕ → List ℕ
over d at S = take at d ++ S ++ drop (at + length S) d

-- S was put into d from place at on: d' is left, and next is the place behind it
pub record Puts (d : List ℕ) (at : ℕ) (S : List ℕ) (next : ℕ) (d' : List ℕ) : Type 0 where
  pub next-is : next ≡ at + length S
  pub left : d' ≡ over d at S
