-- `spill_lay::write_row` meets its contract: five writings, one behind the other. Assumes nothing.
use Rattle.spill_lay.proofs.StepLaws.{copied, stored, row_written}
use Rattle.spill_lay.proofs.write_row.Goals as goal

pub returns : goal.returns
returns c =
    let a = c.args in
    row_written a.buffer.now a.at a.nonce.now a.tenant a.place a.size a.tag.now c.requires.0 c.requires.1
    (copied _ _ _ c.copy_at.ensures) (stored _ _ _ c.store_le32.ensures) (stored _ _ _ c.store_le32-2.ensures)
    (stored _ _ _ c.store_le32-3.ensures) (copied _ _ _ c.copy_at-2.ensures)
