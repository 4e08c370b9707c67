-- `spill_lay::lay` meets its contract: the steps one after the other, each with room for what it writes. Assumes nothing.
use mathlib.Core.Path.{◌∙◌}
use Prim.Native.Nat.{◌+◌}
use native.Mathlib.Omega.{arith}
use Rattle.spill_lay.proofs.StepLaws.{copied, stored, moved_up}
use Rattle.spill_lay.proofs.LayLaws.{facts, calls_are, laid_by}
use Rattle.spill_lay.proofs.lay.Goals as goal

pub returns : goal.returns
returns c =
    let a = c.args in
    let known = facts c.requires in
    let moved_is = c.copy_within.ensures.after ∙ moved_up a.buffer.now c.row_at-end.result a.file (24 + a.f.tag_in_row) (omega (arith, c.row_at-end.ensures, known.end_most)) (omega arith) in (
      calls_are a.f a.s a.buffer.now a.file a.nonce.now a.tenant a.text.now c.seal_text-sealed.ensures,
      laid_by a.f a.s a.buffer.now a.file a.n a.nonce.now a.tenant a.text.now c.requires c.row_at-end.ensures
          moved_is c.seal_text-sealed.ensures (copied _ _ _ c.copy_at.ensures) c.write_row.ensures
          (stored _ _ _ c.store_le32.ensures) c.raise.ensures (omega arith) (omega arith) (omega arith) (omega arith) (omega arith) (omega arith),
    )
