use mathlib.Core.Path.{◌≡◌}
use lib.ListN.{length}
use Rattle.spill_lay.specs.Steps.{raised}
use Rattle.spill_lay.proofs.raise.Given as goal

abbrev pub invariant-loop-i : goal.invariant-loop-i
invariant-loop-i l = (length l.buffer ≡ length l.initial.buffer) × (l.buffer ≡ raised l.f l.by l.i l.initial.buffer)
