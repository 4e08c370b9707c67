-- A block as two words of 64 bits.
use Rattle.std.specs.Prelude.{List, ◌++◌, ℕ}
use Rattle.standards.specs.Strings.{to_bytes}
use Rattle.block.specs.declared.Halves.{Halves}

-- the block: the eight bytes of the high word, then those of the low one
abbrev pub block_of : Halves → List ℕ
block_of x = to_bytes 8 x.high ++ to_bytes 8 x.low
