-- `cases::respond` meets its contract: the reply says how the case was decoded, and the lines of it are put. Assumes nothing.
use mathlib.Core.Path.{sym, ap, ◌∙◌}
use Rattle.std.specs.Prelude.{Err}
use native.Mathlib.Omega.{arith}
use lib.Seq.{length-take-le}
use Rattle.cases.specs.Case.{decode}
use Rattle.cases.proofs.Responded.{shown_bad, has_room, sizes, told, shown, nothing, responds}
use Rattle.cases.proofs.respond.Goals as goal

pub returns-then-out-lt33000-clause-responds : goal.returns-then-out-lt33000-clause-responds
returns-then-out-lt33000-clause-responds c = nothing (decode c.args.case.now) c.args.out.now c.if-out-lt33000.true

pub slice_bounds-text-end : goal.slice_bounds-text-end
slice_bounds-text-end c = let most = sizes c.args.case.now c.answer.ensures c.in-Ok.is in omega (arith, most.0)

pub slice_bounds-put_answer-end : goal.slice_bounds-put_answer-end
slice_bounds-put_answer-end c =
    let most = sizes c.args.case.now c.answer.ensures c.in-Ok.is in sym (length-take-le _ _ (omega (arith, most.0)))

pub slice_bounds-tag-end : goal.slice_bounds-tag-end
slice_bounds-tag-end c = let most = sizes c.args.case.now c.answer.ensures c.in-Ok.is in omega (arith, most.1)

pub slice_bounds-put_answer-end-in-Ok : goal.slice_bounds-put_answer-end-in-Ok
slice_bounds-put_answer-end-in-Ok c =
    let most = sizes c.args.case.now c.answer.ensures c.in-Ok.is in sym (length-take-le _ _ (omega (arith, most.1)))

pub returns-in-Err-Bad-clause-responds : goal.returns-in-Err-Bad-clause-responds
returns-in-Err-Bad-clause-responds c =
    responds (decode c.args.case.now) c.args.out.now c.if-out-lt33000.false
    (shown_bad c.args.case.now c.answer.ensures (c.in-Err-Bad.is ∙ ap Err c.in-Err-Bad.field-0-is)) c.put.ensures

pub returns-in-Err-NoRoom-clause-responds : goal.returns-in-Err-NoRoom-clause-responds
returns-in-Err-NoRoom-clause-responds c = absurd (has_room c.args.case.now c.answer.ensures (c.in-Err-NoRoom.is ∙ ap Err c.in-Err-NoRoom.field-0-is))

pub returns-in-Ok-clause-responds : goal.returns-in-Ok-clause-responds
returns-in-Ok-clause-responds c =
    let r = c.answer in
    responds (decode c.args.case.now) c.args.out.now c.if-out-lt33000.false
    (shown (told c.args.case.now r.ensures c.in-Ok.is r.auto.text r.auto.tag)) c.put_answer.ensures
