-- `block::ntz` meets its contract: the machine looks at 64 places, and any width that holds the number gives one count.
-- Assumes nothing.
use mathlib.Core.Path.{sym}
use native.Mathlib.Omega.{arith}
use Rattle.block.proofs.NtzLaws.{ntz_is}
use Rattle.block.proofs.ntz.Goals as goal

pub returns : goal.returns
returns c = sym (ntz_is 64 c.args.i c.requires (omega arith))
