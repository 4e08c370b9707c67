-- `Sealing::turn` meets its contract: its calls, one in the other. Assumes nothing.
use Rattle.standards.specs.Rfc7253.{seal_block}
use Rattle.ocb_steps.proofs.way.SealingWay.turn.Goals as goal

pub returns : goal.returns
unfolding seal_block
returns c = cc
