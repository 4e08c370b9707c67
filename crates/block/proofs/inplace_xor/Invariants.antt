use mathlib.Core.Path.{◌≡◌}
use lib.ListN.{length, take}
use Rattle.standards.specs.Strings.{◌xor◌}
use Rattle.block.proofs.inplace_xor.Given as goal

abbrev pub invariant-loop-i : goal.invariant-loop-i
invariant-loop-i l = (l.a ≡ l.fn.a xor take l.i l.b) × (length l.b ≡ 16)
