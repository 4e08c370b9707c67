use mathlib.Core.Path.{◌≡◌}
use mathlib.Core.Bool.{false}
use Rattle.standards.specs.Rfc7253.{same}
use Rattle.spill_form.specs.File.{nonce_of, any_below}
use Rattle.spill_add.proofs.has_nonce.Given as goal

abbrev pub invariant-loop-i : goal.invariant-loop-i
invariant-loop-i l = any_below (λ i. same (nonce_of l.held.form l.held.bytes.now i) l.nonce) l.i ≡ false
