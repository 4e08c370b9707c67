-- `spill_lay::seal_text` meets its contract. Assumes nothing.
use native.Mathlib.Omega.{arith}
use Rattle.spill_lay.proofs.StepLaws.{copied, sealed_at}
use Rattle.spill_lay.proofs.seal_text.Goals as goal

pub returns : goal.returns
returns c =
    let a = c.args in
    sealed_at a.s a.buffer.now a.at a.nonce.now a.tenant a.text.now c.requires.0 c.requires.1 (copied _ _ _ c.copy_at.ensures)
    c.store_le32.ensures c.seal-answer.auto.text c.seal-answer.auto.tag c.seal-answer.ensures (omega arith)
