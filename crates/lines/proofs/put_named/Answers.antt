-- `lines::put_named` meets its contract: two strings put one behind the other. Assumes nothing.
use native.Mathlib.Omega.{arith}
use Rattle.lines.proofs.Over.{puts}
use Rattle.lines.proofs.put_named.Goals as goal

pub returns : goal.returns
returns c = puts (omega arith) c.put-a.ensures c.put_decimal.ensures
