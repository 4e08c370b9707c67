-- Strings of bytes as the documents print them: a number in hex. It uses none of the definitions of standards, which the examples are there to test.
use mathlib.Core.List.{List, [], ◌∷◌}
use Prim.Native.Nat.{ℕ, zero, suc, ◌/◌, ◌%◌, ◌^◌}

-- the n lowest bytes of a number, the highest first
unfoldable pub hex : ℕ → ℕ → List ℕ
hex zero x = []
hex (suc n) x = x / 256 ^ n % 256 ∷ hex n x
