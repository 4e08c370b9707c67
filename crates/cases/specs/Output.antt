-- What the test program writes: the lines of an answer, or `bad case`.
use Rattle.std.specs.Prelude.{List, ◌∷◌, ℕ}
use Rattle.lines.specs.Text.{newline, lines}
use Rattle.cases.specs.Case.{Decoded, bad, good, outcome}

-- "bad case" and a newline
abbrev pub bad_line : List ℕ
bad_line = 98 ∷ 97 ∷ 100 ∷ 32 ∷ 99 ∷ 97 ∷ 115 ∷ 101 ∷ newline

unfoldable pub output : Decoded → List ℕ
output bad = bad_line
output (good c) = lines (outcome c).number (outcome c).calls (outcome c).text (outcome c).tag
