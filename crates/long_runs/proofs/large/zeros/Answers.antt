-- `long_runs::large::zeros` meets its contract. Assumes nothing.
use mathlib.Core.Path.{sym}
use Prim.Native.Nat.{ℕ}
use lib.ListN.{length-replicate}
use Rattle.long_runs.proofs.large.zeros.Goals as goal

pub returns : goal.returns
returns c = sym (length-replicate {A = ℕ} 1048581 0)
