-- `open_row` meets its contract: open's refusals leave the output, and behind them the row is opened from its parts. Assumes nothing.
use Rattle.std.specs.Prelude.{Err}
use mathlib.Core.Path.{◌≡◌, refl, ap}
use Prim.Native.Nat.{ℕ, ◌-◌}
use native.Mathlib.Omega.{arith}
use borrow.Author.Rules.{rules}
use Rattle.ocb_numbers.proofs.Refusals.{numbered_from_1}
use Rattle.spill_form.specs.declared.Refusal.TheVariants.{Sizes}
use Rattle.spill_read.proofs.ReadLaws.{row_of, row_refused, row_opened, replied}
use Rattle.spill_read.proofs.open_row.Goals as goal

pub returns-in_err-refuse : goal.returns-in_err-refuse
returns-in_err-refuse c =
    let a = c.args in
    let e = c.in_err-refuse.field-0.0 in
    let is : c.from_residual.result ≡ Err (Sizes e) = search rules in
    replied (Sizes e) is
    (row_refused a.s.form a.s.bytes.now a.row a.s.small c.requires.0 c.requires.1 a.state a.out.now
    (ap (λ (x : ℕ). x - (16 - a.s.form.tag_in_row)) c.size.ensures.0) c.in_err-refuse.ensures (numbered_from_1 e))

pub tag_of-tag-requires : goal.tag_of-tag-requires
tag_of-tag-requires c =
    let a = c.args in
    let w = row_of a.s.form a.s.bytes.now a.row a.s.small c.requires.0 c.requires.1 in
    (omega (arith, c.row_at-at.ensures, w.row_end), omega (arith, c.place-place.ensures.0, c.size.ensures.0, w.least, w.body_end))

pub open_at-requires : goal.open_at-requires
open_at-requires c =
    let a = c.args in
    let w = row_of a.s.form a.s.bytes.now a.row a.s.small c.requires.0 c.requires.1 in (
      omega (arith, c.row_at-at.ensures, w.row_end),
      omega (arith, c.place-place.ensures.0, c.size.ensures.0, w.least, w.body_end),
      omega (arith, c.size.ensures.0, c.requires.2),
    )

pub returns : goal.returns
returns c =
    let a = c.args in
    row_opened a.s.form a.s.bytes.now a.row a.s.small c.requires.0 c.requires.1 a.state a.out.now
    (ap (λ (x : ℕ). x - (16 - a.s.form.tag_in_row)) c.size.ensures.0) c.in_ok-refuse.ensures c.row_at-at.ensures c.place-place.ensures.0
    refl c.tag_of-tag.ensures c.open_at.ensures
