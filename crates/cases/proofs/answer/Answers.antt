-- `cases::answer` meets its contract: what table::find found is nothing or places the bodies, and the buffers have room or not. Assumes nothing.
use mathlib.Core.Path.{sym, ◌∙◌}
use Rattle.std.proofs.lemmas.Result.{err_from_is_err_and}
use Rattle.cases.proofs.Placed.{found_good}
use Rattle.cases.proofs.Answered.{within, refused, answered_bad, no_text_room, no_tag_room, answered}
use Rattle.cases.proofs.answer.Goals as goal

pub returns-in_err-t : goal.returns-in_err-t
returns-in_err-t c =
    let none = c.in_err-t.ensures.ok_part in
    let bad = refused c.find.result c.in_err-t.ensures.value none in
    let p = err_from_is_err_and c.from_residual.result c.from_residual.ensures.1 in
    rw (p.1, p.2, bad) (answered_bad c.args.case.now c.args.text.now c.args.tag.now (sym none ∙ c.find.ensures))

pub overflow_sub-texts : goal.overflow_sub-texts
overflow_sub-texts c = (within (found_good c.find.ensures c.in_ok-t.ensures.ok_part)).tag_place

pub overflow_sub-tags : goal.overflow_sub-tags
overflow_sub-tags c = (within (found_good c.find.ensures c.in_ok-t.ensures.ok_part)).end_place

pub returns-then-text-texts : goal.returns-then-text-texts
returns-then-text-texts c =
    no_text_room (found_good c.find.ensures c.in_ok-t.ensures.ok_part) c.args.text.now c.args.tag.now c.if-text-texts.true

pub returns-then-tag-tags : goal.returns-then-tag-tags
returns-then-tag-tags c = no_tag_room (found_good c.find.ensures c.in_ok-t.ensures.ok_part) c.args.text.now c.args.tag.now c.if-tag-tags.true

pub answer_at-a-requires : goal.answer_at-a-requires
answer_at-a-requires c =
    (within (found_good c.find.ensures c.in_ok-t.ensures.ok_part), record { text_room = c.if-text-texts.false; tag_room = c.if-tag-tags.false })

pub returns : goal.returns
returns c =
    answered (found_good c.find.ensures c.in_ok-t.ensures.ok_part) c.args.text.now c.args.tag.now
    (record { text_room = c.if-text-texts.false; tag_room = c.if-tag-tags.false }) c.answer_at-a.ensures
