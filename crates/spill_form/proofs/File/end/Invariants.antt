use Rattle.spill_form.specs.Accepted.{Passed}
use Rattle.spill_form.proofs.File.end.Given as goal

abbrev pub invariant-loop-i : goal.invariant-loop-i
invariant-loop-i l = Passed l.self.form l.self.bytes.now l.i l.run
