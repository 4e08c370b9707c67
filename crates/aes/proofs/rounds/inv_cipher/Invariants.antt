use mathlib.Core.Path.{◌≡◌}
use Prim.Native.Nat.{◌-◌}
use Rattle.standards.specs.Fips197.{inv_rounds}
use Rattle.aes.proofs.rounds.inv_cipher.Given as goal

abbrev pub invariant-loop-i : goal.invariant-loop-i
invariant-loop-i l = inv_rounds l.w (l.i - 1) l.s ≡ inv_rounds l.w (l.rounds - 1) l.initial.s
