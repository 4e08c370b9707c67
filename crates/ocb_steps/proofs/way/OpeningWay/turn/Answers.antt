-- `Opening::turn` meets its contract: its calls, one in the other. Assumes nothing.
use Rattle.standards.specs.Rfc7253.{open_block}
use Rattle.ocb_steps.proofs.way.OpeningWay.turn.Goals as goal

pub returns : goal.returns
unfolding open_block
returns c = cc
