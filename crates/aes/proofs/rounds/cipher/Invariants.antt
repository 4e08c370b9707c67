use mathlib.Core.Path.{◌≡◌}
use Prim.Native.Nat.{◌-◌}
use Rattle.standards.specs.Fips197.{rounds}
use Rattle.aes.proofs.rounds.cipher.Given as goal

abbrev pub invariant-loop-i : goal.invariant-loop-i
invariant-loop-i l = l.s ≡ rounds l.w (l.i - 1) l.initial.s
