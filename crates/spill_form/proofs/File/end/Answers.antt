-- `File::end` meets its contract. The loop's invariant: no row passed is flawed, and `run` is the running place. Assumes nothing.
use mathlib.Core.Path.{refl, sym, ap, ◌∙◌}
use native.Mathlib.Omega.{arith}
use Rattle.spill_form.specs.File.{count, row_at, flawed}
use Rattle.spill_form.proofs.FileLaws.{passed_none, turn, any_at}
use Rattle.spill_form.proofs.File.end.Goals as goal

pub loop-i-init : goal.loop-i-init
loop-i-init c =
    let s = c.args.self in
    let e = c.row_at-run.ensures ∙ ap (row_at s.form) c.count.ensures in
    passed_none s.form s.bytes.now e (omega (arith, e, s.table.room))

pub returns-then-flawed : goal.returns-then-flawed
returns-then-flawed c =
    let s = c.args.self in
    (refl, any_at (flawed s.form s.bytes.now) (count s.bytes.now) c.loop-i.i (omega (arith, c.count-i-end.ensures)) (sym c.flawed.ensures ∙ c.if-flawed.true))

pub loop-i-preserved : goal.loop-i-preserved
loop-i-preserved c =
    let s = c.args.self in
    turn s.form s.bytes.now c.loop-i.i c.loop-i.invariant (omega (arith, c.count-i-end.ensures)) c.size-run.ensures.0 (sym c.flawed.ensures ∙ c.if-flawed.false)
