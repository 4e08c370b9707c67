-- `check` meets its contract: two lengths are tested, then the table, the rows and what is behind them. Assumes nothing.
use mathlib.Core.Path.{◌≡◌}
use native.Mathlib.Omega.{arith}
use borrow.Author.Rules.{rules}
use Rattle.spill_form.specs.File.{file_number}
use Rattle.spill_form.proofs.FileLaws.{flawed_file, longer_file, whole_file, tableless_file}
use Rattle.spill_form.proofs.check.Goals as goal

pub returns-then-buffer-file-clause-number : goal.returns-then-buffer-file-clause-number
unfolding file_number
returns-then-buffer-file-clause-number c = search rules

pub returns-in_err-tabled-clause-number : goal.returns-in_err-tabled-clause-number
returns-in_err-tabled-clause-number c =
    let a = c.args in
    let e : 10 ≡ file_number a.form a.buffer.now a.file = tableless_file a.form a.buffer.now a.file (omega arith) (omega arith) c.in_err-tabled.ensures.1 in
    search rules

pub returns-in_err-end-clause-number : goal.returns-in_err-end-clause-number
returns-in_err-end-clause-number c =
    let a = c.args in
    let t = c.in_ok-tabled in
    let flawed = c.in_err-end.ensures.1 in
    let e : 11 ≡ file_number a.form a.buffer.now a.file = flawed_file a.form a.buffer.now a.file (omega arith) (omega arith) t.ensures t.tabled.table flawed in
    search rules

pub returns-then-branch-tabled-clause-number : goal.returns-then-branch-tabled-clause-number
returns-then-branch-tabled-clause-number c =
    let a = c.args in
    longer_file a.form a.buffer.now a.file (omega arith) (omega arith) c.in_ok-tabled.ensures c.in_ok-tabled.tabled.table c.in_ok-end.ensures c.if-branch-tabled.true

pub returns-clause-number : goal.returns-clause-number
returns-clause-number c =
    let a = c.args in
    whole_file a.form a.buffer.now a.file (omega arith) (omega arith) c.in_ok-tabled.ensures c.in_ok-tabled.tabled.table c.in_ok-end.ensures c.if-branch-tabled.false
