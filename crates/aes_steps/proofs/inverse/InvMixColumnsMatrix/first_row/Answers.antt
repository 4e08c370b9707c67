-- `InvMixColumns::first_row` meets its contract: the row of the matrix by repeated doublings.
-- Assumes nothing.
use Rattle.standards.specs.Strings.{◌⊕◌}
use Rattle.aes_steps.proofs.MixLaws.{inv_mix_row}
use Rattle.aes_steps.proofs.inverse.InvMixColumnsMatrix.first_row.Goals as goal

pub returns : goal.returns
unfolding ◌⊕◌
returns c =
    inv_mix_row _ _ _ _ _ _ _ _ _ _
    c.double.ensures c.double-2.ensures
    c.double-by8.ensures c.double-3.ensures c.double-by4.ensures c.double-4.ensures
