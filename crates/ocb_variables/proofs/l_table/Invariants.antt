use mathlib.Core.Path.{◌≡◌}
use lib.ListN.{length}
use Rattle.sizes.specs.Sizes.{table_bytes}
use Rattle.standards.specs.Strings.{zeros}
use Rattle.block.specs.Halves.{block_of}
use Rattle.ocb_variables.proofs.TableLaws.{Filled}
use Rattle.ocb_variables.proofs.l_table.Given as goal

abbrev pub invariant-loop-i : goal.invariant-loop-i
invariant-loop-i l = (length l.table ≡ table_bytes) × Filled (block_of l.initial.l) (zeros table_bytes) l.table (block_of l.l) l.i
