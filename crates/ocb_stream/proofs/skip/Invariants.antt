-- `ocb_stream::skip` ends: each turn reads at least one of the bytes that are left.
use Rattle.std.proofs.Common.{◌≡◌, length}
use Rattle.ocb_stream.proofs.skip.Given as goal

abbrev pub invariant-loop-left : goal.invariant-loop-left
invariant-loop-left g l = length l.buffer ≡ length l.fn.buffer

abbrev pub decreases-loop-left : goal.decreases-loop-left
decreases-loop-left g l = l.left
