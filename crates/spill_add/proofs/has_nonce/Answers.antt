-- `has_nonce` meets its contract. The loop's invariant: no row passed has the nonce. Assumes nothing.
use mathlib.Core.Path.{refl, sym, ap, ◌∙◌}
use mathlib.Core.List.{List}
use Prim.Native.Nat.{ℕ, ◌<◌}
use native.Mathlib.Omega.{arith}
use lib.ListN.{length}
use Rattle.standards.specs.Rfc7253.{same}
use Rattle.spill_form.specs.File.{count, nonce_of, any_below}
use Rattle.spill_form.proofs.FileLaws.{any_at, none_more}
use Rattle.spill_add.proofs.SameLaws.{other_length, same_front, other_front, nonce_size}
use Rattle.spill_add.proofs.has_nonce.Goals as goal
use Rattle.spill_add.proofs.has_nonce.Goals.{else-nonce-eq12-via-then-nonce-eq12+then-load_le32+else-starts_with, else-nonce-eq12-via-then-nonce-eq12+else-load_le32, else-nonce-eq12-via-else-nonce-eq12}

pub loop-i-init : goal.loop-i-init
unfolding any_below
loop-i-init c = refl

pub load_le32-requires : goal.load_le32-requires
load_le32-requires c =
    let s = c.args.held in
    let size = nonce_size s.form s.bytes.now c.loop-i.i s.table (omega (arith, c.count-i-end.ensures)) in
    omega (arith, size, ap length c.nonce-row.ensures)

pub returns-then-starts_with : goal.returns-then-starts_with
returns-then-starts_with c =
    let s = c.args.held in
    let N : List ℕ = c.args.nonce.now in
    let i = c.loop-i.i in
    let counted : i < count s.bytes.now = omega (arith, c.count-i-end.ensures) in
    let size = nonce_size s.form s.bytes.now i s.table counted in
    let row = c.nonce-row in
    let front = same_front row.result.now N (c.if-nonce-eq12.true ∙ sym size ∙ sym (ap length row.ensures)) in
    let is = ap (λ a. same a N) (sym row.ensures) ∙ front ∙ sym c.starts_with.ensures.value ∙ c.if-starts_with.true in
    sym (any_at (λ k. same (nonce_of s.form s.bytes.now k) N) (count s.bytes.now) i counted is)

pub loop-i-preserved : goal.loop-i-preserved
loop-i-preserved c =
    let s = c.args.held in
    let N : List ℕ = c.args.nonce.now in
    let i = c.loop-i.i in
    let row = c.nonce-row in
    let is = ap (λ a. same a N) (sym row.ensures) in
    let size = ap length row.ensures ∙ nonce_size s.form s.bytes.now i s.table (omega (arith, c.count-i-end.ensures)) in
    none_more (λ k. same (nonce_of s.form s.bytes.now k) N) i c.loop-i.invariant
    (is ∙ elim c.else-nonce-eq12.branch [
      | else-nonce-eq12-via-then-nonce-eq12+then-load_le32+else-starts_with w ↦
          same_front row.result.now N (w.if-nonce-eq12.true ∙ sym size) ∙ sym w.starts_with.ensures.value ∙ w.if-starts_with.false
      | else-nonce-eq12-via-then-nonce-eq12+else-load_le32 w ↦
          other_front row.result.now N (λ e. w.if-load_le32.false (w.load_le32.ensures.0 ∙ e ∙ sym w.load_le32-then-nonce-eq12.ensures.0))
      | else-nonce-eq12-via-else-nonce-eq12 w ↦ other_length row.result.now N (λ e. w.if-nonce-eq12.false (sym e ∙ size))
    ])
