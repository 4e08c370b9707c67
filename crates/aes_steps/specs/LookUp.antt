-- What a table has at a byte.
use Rattle.std.specs.Prelude.{List, ℕ, get_or}

unfoldable pub look_up : List ℕ → ℕ → ℕ
look_up t b = get_or t b 0
