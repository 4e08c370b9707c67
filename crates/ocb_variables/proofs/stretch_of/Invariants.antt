use mathlib.Core.Path.{◌≡◌}
use mathlib.Core.List.{◌++◌}
use lib.ListN.{length}
use lib.Seq.{paste}
use Rattle.standards.specs.Strings.{zeros}
use Rattle.ocb_variables.proofs.NonceLaws.{behind}
use Rattle.ocb_variables.proofs.stretch_of.Given as goal

abbrev pub invariant-loop-j : goal.invariant-loop-j
invariant-loop-j l = (length l.ktop ≡ 16) × (l.stretch ≡ paste (l.ktop ++ zeros 8) 16 (behind l.ktop) l.j)
