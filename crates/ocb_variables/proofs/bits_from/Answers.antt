-- `ocb_variables::bits_from` meets its contract: at 0 nothing of `lo` is taken, and else the two shifts do not overlap. Assumes nothing.
use mathlib.Core.Path.{sym}
use native.Mathlib.Omega.{arith}
use Rattle.ocb_variables.proofs.OffsetLaws.{bits_from_shifts}
use Rattle.ocb_variables.proofs.bits_from.Goals as goal

pub returns : goal.returns
returns c =
    sym (bits_from_shifts c.args.hi c.args.lo c.args.bottom (omega arith) c.ranges.lo.fits)
