-- `replay::list::run_entries` is safe: no more entries agree than were run.
use Rattle.std.proofs.Common.{◌≤◌}
use Rattle.replay.proofs.list.run_entries.Given as goal

abbrev pub invariant-loop-i : goal.invariant-loop-i
invariant-loop-i g l = l.tally.agreed ≤ l.i
