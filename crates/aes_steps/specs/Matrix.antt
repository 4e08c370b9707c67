-- A matrix by its first row.
use Rattle.std.specs.Prelude.{List, ℕ, ◌+◌, ◌%◌, get_or}
use Rattle.standards.specs.Fips197.{column}

-- the matrix with this first row, whose every other row is the one above turned one place to the right, on a column
abbrev pub turns : (ℕ → ℕ → ℕ → ℕ → ℕ) → List ℕ → List ℕ
turns row a = column (λ r. row (get_or a r 0) (get_or a ((r + 1) % 4) 0) (get_or a ((r + 2) % 4) 0) (get_or a ((r + 3) % 4) 0))
