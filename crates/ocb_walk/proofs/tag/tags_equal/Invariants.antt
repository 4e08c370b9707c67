use mathlib.Core.Path.{◌≡◌}
use lib.Dec.{eqb}
use lib.ListN.{take}
use Rattle.standards.specs.Rfc7253.{same}
use Rattle.ocb_walk.proofs.tag.tags_equal.Given as goal

abbrev pub invariant-loop-i : goal.invariant-loop-i
invariant-loop-i l = eqb l.difference 0 ≡ same (take l.i l.computed) (take l.i l.given)
