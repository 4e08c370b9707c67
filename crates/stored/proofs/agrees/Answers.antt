-- `stored::agrees` meets its contract: the reply says how the case was decoded, and an answer is told or not. Assumes nothing.
use mathlib.Core.Path.{sym, ap, ◌∙◌}
use Rattle.std.specs.Prelude.{Err}
use native.Mathlib.Omega.{arith}
use lib.Seq.{length-take-le}
use Rattle.cases.proofs.Responded.{told_bad, has_room, sizes, told}
use Rattle.stored.proofs.Replied.{owed_bad, owed_good}
use Rattle.stored.proofs.agrees.Goals as goal

pub slice_bounds-text-end : goal.slice_bounds-text-end
slice_bounds-text-end c = let most = sizes c.args.case.now c.answer.ensures c.in-Ok.is in omega (arith, most.0)

pub slice_bounds-tells-end : goal.slice_bounds-tells-end
slice_bounds-tells-end c =
    let most = sizes c.args.case.now c.answer.ensures c.in-Ok.is in sym (length-take-le _ _ (omega (arith, most.0)))

pub slice_bounds-tag-end : goal.slice_bounds-tag-end
slice_bounds-tag-end c = let most = sizes c.args.case.now c.answer.ensures c.in-Ok.is in omega (arith, most.1)

pub slice_bounds-tells-end-in-Ok : goal.slice_bounds-tells-end-in-Ok
slice_bounds-tells-end-in-Ok c =
    let most = sizes c.args.case.now c.answer.ensures c.in-Ok.is in sym (length-take-le _ _ (omega (arith, most.1)))

pub returns-in-Err-Bad : goal.returns-in-Err-Bad
returns-in-Err-Bad c = rw c.is_empty.ensures (owed_bad c.args.stored.now (told_bad c.args.case.now c.answer.ensures (c.in-Err-Bad.is ∙ ap Err c.in-Err-Bad.field-0-is)))

pub returns-in-Err-NoRoom : goal.returns-in-Err-NoRoom
returns-in-Err-NoRoom c = absurd (has_room c.args.case.now c.answer.ensures (c.in-Err-NoRoom.is ∙ ap Err c.in-Err-NoRoom.field-0-is))

pub returns-in-Ok : goal.returns-in-Ok
returns-in-Ok c =
    let r = c.answer in
    owed_good c.args.stored.now (told c.args.case.now r.ensures c.in-Ok.is r.auto.text r.auto.tag) c.tells.ensures
