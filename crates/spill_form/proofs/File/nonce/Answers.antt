-- `File::nonce` meets its contract: the row ends where the next begins. Assumes nothing.
use native.Mathlib.Omega.{arith}
use Rattle.spill_form.specs.File.{count}
use Rattle.spill_form.proofs.PlaceLaws.{row_within}
use Rattle.spill_form.proofs.File.nonce.Goals as goal

pub overflow_add-result : goal.overflow_add-result
overflow_add-result c =
    let s = c.args.self in
    omega (arith, c.row_at-at.ensures, row_within s.form c.args.i (count s.bytes.now) c.requires, s.table.room, s.few)

pub slice_bounds-result-end : goal.slice_bounds-result-end
slice_bounds-result-end c =
    let s = c.args.self in
    omega (arith, c.row_at-at.ensures, row_within s.form c.args.i (count s.bytes.now) c.requires, s.table.room)
