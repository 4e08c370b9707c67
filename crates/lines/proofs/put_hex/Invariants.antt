use mathlib.Core.Path.{◌≡◌}
use lib.ListN.{take}
use Rattle.lines.specs.Text.{hex, over}
use Rattle.lines.proofs.put_hex.Given as goal

abbrev pub invariant-loop-i : goal.invariant-loop-i
invariant-loop-i l = l.out ≡ over l.initial.out l.at (hex (take l.i l.s))
