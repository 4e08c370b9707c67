-- `zero_state` meets its contract: it is built of zeros. Assumes nothing.
use mathlib.Core.Path.{refl}
use Rattle.ocb.specs.Answers.{zero_state}
use Rattle.ocb.proofs.zero_state.Goals as goal

pub returns : goal.returns
unfolding zero_state
returns c = refl
