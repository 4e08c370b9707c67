-- Numbers as strings of bytes, the lowest byte first.
use Rattle.std.specs.Prelude.{List, [], ◌∷◌, ℕ, zero, suc, ◌+◌, ◌*◌, ◌/◌, ◌%◌}

-- the number that a string of bytes is
unfoldable pub le : List ℕ → ℕ
le [] = 0
le (b ∷ S) = b + 256 * le S

-- the k lowest bytes of n
unfoldable pub le_bytes : ℕ → ℕ → List ℕ
le_bytes zero n = []
le_bytes (suc k) n = n % 256 ∷ le_bytes k (n / 256)
