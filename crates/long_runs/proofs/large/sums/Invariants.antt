-- `long_runs::large::sums` is safe: each sum stays below the prime.
use Rattle.std.proofs.Common.{◌<◌}
use Rattle.long_runs.proofs.large.sums.Given as goal

abbrev pub invariant-loop-byte : goal.invariant-loop-byte
invariant-loop-byte l = (l.first < 4294967291) × (l.second < 4294967291)
