use Prim.Native.Nat.{◌*◌}
use Rattle.ocb_variables.specs.Held.{key_of}
use Rattle.ocb_walk.proofs.WalkLaws.{Going}
use Rattle.ocb_walk.proofs.text.walk.Given as goal

abbrev pub invariant-loop-i : goal.invariant-loop-i
invariant-loop-i g l = Going g.W.Way.opens (key_of l.k) l.fn.o l.initial.s l.s l.r (l.i * 2)
