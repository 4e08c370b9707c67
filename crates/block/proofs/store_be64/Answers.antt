-- `block::store_be64` meets its contract: std's eight bytes of a number are its bytes. Assumes nothing.
use mathlib.Core.Path.{◌∙◌}
use Rattle.block.proofs.WordLaws.{high_first}
use Rattle.block.proofs.store_be64.Goals as goal

pub returns : goal.returns
returns c = c.copy_from_slice.ensures.after ∙ c.to_be_bytes.ensures ∙ high_first 8 c.args.n
