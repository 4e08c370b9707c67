use mathlib.Core.Path.{◌≡◌}
use Prim.Native.Nat.{◌-◌, ◌*◌}
use lib.ListN.{take}
use Rattle.standards.specs.Fips197.{schedule}
use Rattle.aes.proofs.key.expand.Given as goal

abbrev pub invariant-loop-i : goal.invariant-loop-i
invariant-loop-i l = take (4 * l.i) l.w ≡ schedule l.nk l.key (l.i - l.nk)
