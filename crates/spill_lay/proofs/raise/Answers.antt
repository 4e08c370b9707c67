-- `spill_lay::raise` meets its contract. The loop's invariant: the places of the rows passed are raised. Assumes nothing.
use mathlib.Core.Path.{◌≡◌, refl, ap, ◌∙◌}
use Prim.Native.Nat.{ℕ, ◌+◌}
use native.Mathlib.Omega.{arith}
use lib.ListN.{length}
use Rattle.block.specs.Words.{le_bytes}
use Rattle.block.proofs.WordLaws.{le_bytes_length}
use Rattle.spill_form.proofs.PlaceLaws.{row_within}
use Rattle.spill_lay.specs.Steps.{over, raised}
use Rattle.spill_lay.proofs.StepLaws.{over_length, stored, raised_next}
use Rattle.spill_lay.proofs.raise.Goals as goal

pub loop-i-init : goal.loop-i-init
unfolding raised
loop-i-init c = (refl, refl)

pub overflow_add-at : goal.overflow_add-at
overflow_add-at c =
    let l = c.loop-i in
    omega (arith, c.row_at-at.ensures, row_within c.args.f l.i c.args.n (omega arith), c.requires.3)

pub store_le32-requires : goal.store_le32-requires
store_le32-requires c =
    let l = c.loop-i in
    omega (arith, c.row_at-at.ensures, row_within c.args.f l.i c.args.n (omega arith), c.requires.3, l.invariant.0)

pub loop-i-preserved : goal.loop-i-preserved
loop-i-preserved c =
    let l = c.loop-i in
    let a = c.args in
    let done : c.store_le32.new.s ≡ over l.buffer (c.row_at-at.result + 16) (le_bytes 4 (c.load_le32-place.result + a.by)) = stored _ _ _ c.store_le32.ensures in
    let fits = row_within a.f l.i a.n (omega arith) in
    let place : ℕ = c.load_le32-place.result + a.by in (
      ap length done
          ∙ over_length l.buffer (c.row_at-at.result + 16) (le_bytes 4 place) (omega (arith, c.row_at-at.ensures, le_bytes_length 4 place, c.requires.3, l.invariant.0))
          ∙ l.invariant.0,
      raised_next a.f a.by l.i a.buffer.now l.invariant.1 c.row_at-at.ensures c.load_le32-place.ensures.0 done,
    )

pub returns : goal.returns
returns c =
    let a = c.args in
    let l = c.loop-i in
    let e : l.i ≡ a.n = omega arith in
    l.invariant.1 ∙ ap (λ (k : ℕ). raised a.f a.by k a.buffer.now) e

pub load_le32-place-requires : goal.load_le32-place-requires
load_le32-place-requires c =
    let l = c.loop-i in
    omega (arith, c.row_at-at.ensures, row_within c.args.f l.i c.args.n (omega arith), c.requires.3, l.invariant.0)
