-- How long the lines of an answer are. Assumes nothing.
use mathlib.Core.List.{List}
use Prim.Native.Nat.{ℕ, ◌+◌, ◌*◌, ◌≤◌}
use mathlib.Core.Path.{◌≡◌}
use native.Mathlib.Omega.{arith}
use lib.ListN.{length, length-append}
use Rattle.lines.specs.Text.{named, numbers_line, hex_line}
use Rattle.lines.proofs.Decimal.{decimal_length}
use Rattle.lines.proofs.Over.{hex_length}

pub named_length : (word : List ℕ) (n : ℕ) → length (named word n) ≤ length word + 20
named_length word n = simp length-append (omega (arith, decimal_length 20 n))

pub numbers_length : (number calls : ℕ) → length (numbers_line number calls) ≤ 55
numbers_length number calls =
    simp length-append (omega (arith, decimal_length 20 number, decimal_length 20 calls))

pub hex_line_length : (S : List ℕ) → length (hex_line S) ≡ 2 * length S + 1
hex_line_length S = simp length-append (omega (arith, hex_length S))
