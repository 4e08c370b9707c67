-- `MixColumns::first_row` meets its contract: the row of the matrix by doublings.
-- Assumes nothing.
use Rattle.standards.specs.Strings.{◌⊕◌}
use Rattle.aes_steps.proofs.MixLaws.{mix_row}
use Rattle.aes_steps.proofs.MixColumnsMatrix.first_row.Goals as goal

pub returns : goal.returns
unfolding ◌⊕◌
returns c = mix_row _ _ _ _ _ _ c.double.ensures c.double-2.ensures
