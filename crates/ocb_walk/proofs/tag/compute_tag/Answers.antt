-- `compute_tag` meets its contract: its calls, one in the other. Assumes nothing.
use Rattle.standards.specs.Rfc7253.{Tag}
use Rattle.ocb_walk.proofs.tag.compute_tag.Goals as goal

pub returns : goal.returns
unfolding Tag
returns c = cc
