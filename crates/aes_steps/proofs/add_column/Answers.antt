-- `aes_steps::add_column` meets its contract: the sum of two bytes (4.1) is exclusive or. Assumes nothing.
use mathlib.Core.Path.{refl}
use Rattle.standards.specs.Strings.{◌⊕◌}
use Rattle.aes_steps.proofs.add_column.Goals as goal

pub returns : goal.returns
unfolding ◌⊕◌
returns c = refl
