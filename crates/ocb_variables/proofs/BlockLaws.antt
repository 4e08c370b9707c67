-- What is cut to sixteen bytes is a block, whatever it is cut from: so are the double of a string and the first offset.
-- Assumes nothing.
use mathlib.Core.List.{List}
use Prim.Native.Nat.{ℕ, suc}
use lib.Dec.{lit<}
use Rattle.standards.specs.Strings.{to_bytes, Block}
use Rattle.standards.specs.Rfc7253.{double, doubled}
use Rattle.standards.specs.InBytes.{cut_of, initial_offset}
use Rattle.block.proofs.NumberLaws.{digits_length, digits_below}

bytes_block : (n : ℕ) → Block (to_bytes 16 n)
bytes_block n = record { size = digits_length 256 16 n; bytes = digits_below 256 (lit< tt) 16 n }

pub double_block : (S : List ℕ) → Block (double S)
unfolding double
double_block S = bytes_block _

pub doubled_block : (i : ℕ) (S : List ℕ) → Block (doubled (suc i) S)
unfolding doubled
doubled_block i S = double_block (doubled i S)

cut_block : (stretch : List ℕ) (bottom : ℕ) → Block (cut_of stretch bottom)
unfolding cut_of
cut_block stretch bottom = bytes_block _

pub initial_offset_block : (E : List ℕ → List ℕ) (t : ℕ) (N : List ℕ) → Block (initial_offset E t N)
unfolding initial_offset
initial_offset_block E t N = cut_block _ _
