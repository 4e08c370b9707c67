-- `read_form` meets its contract: the file's refusals, the row's, and the row opened. Assumes nothing.
use Rattle.std.specs.Prelude.{Err}
use mathlib.Core.Path.{◌≡◌, sym}
use lib.ListN.{length}
use borrow.Author.Rules.{rules}
use Rattle.spill_form.proofs.FileLaws.{checked}
use Rattle.spill_read.proofs.ReadLaws.{readable, refused_file, refused_row, read_row, replied}
use Rattle.spill_read.proofs.read_form.Goals as goal

pub returns-in_err-s : goal.returns-in_err-s
returns-in_err-s c =
    let a = c.args in
    let e = c.in_err-s.field-0.0 in
    let is : c.from_residual.result ≡ Err e = search rules in
    replied e is (refused_file a.f a.state a.buffer.now a.file a.row a.asking a.out.now e c.in_err-s.ensures.number)

pub refuse_row-requires : goal.refuse_row-requires
refuse_row-requires c =
    let a = c.args in
    checked a.f a.buffer.now a.file c.in_ok-s.ensures.accepted c.in_ok-s.ensures.number

pub returns-in_err-refuse_row : goal.returns-in_err-refuse_row
returns-in_err-refuse_row c =
    let a = c.args in
    let e = c.in_err-refuse_row.field-0.0 in
    let is : c.from_residual-in_err-refuse_row.result ≡ Err e = search rules in
    replied e is
    (refused_row a.f a.state a.buffer.now a.file a.row a.asking a.out.now c.in_ok-s.ensures.accepted c.in_ok-s.ensures.number e c.in_err-refuse_row.ensures)

pub open_row-requires : goal.open_row-requires
open_row-requires c =
    let a = c.args in
    let s = c.in_ok-s.s in
    let r = readable s.form s.bytes.now a.row a.asking (length a.out.now) (sym c.in_ok-refuse_row.ensures) in
    (checked a.f a.buffer.now a.file c.in_ok-s.ensures.accepted c.in_ok-s.ensures.number, r.below, r.fits)

pub returns : goal.returns
returns c =
    let a = c.args in
    read_row a.f a.state a.buffer.now a.file a.row a.asking a.out.now c.in_ok-s.ensures.accepted c.in_ok-s.ensures.number
    c.in_ok-refuse_row.ensures c.open_row.ensures
