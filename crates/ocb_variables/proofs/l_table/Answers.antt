-- `ocb_variables::l_table` meets its contract. The loop's invariant: `i` rows are laid over the zeros, and `l` has the words of the last of them.
-- Assumes nothing.
use mathlib.Core.Path.{◌≡◌, refl, ap, subst, ◌∙◌}
use mathlib.Core.List.{List, ◌++◌}
use Prim.Native.Nat.{ℕ, ◌+◌, ◌*◌}
use native.Mathlib.Omega.{arith}
use lib.ListN.{take, drop}
use Rattle.sizes.specs.Sizes.{table_bytes}
use Rattle.standards.specs.Strings.{zeros}
use Rattle.block.specs.Halves.{block_of}
use Rattle.ocb_variables.specs.State.{table_of}
use Rattle.ocb_variables.proofs.TableLaws.{Filled, filled_none, filled_more, filled_all}
use Rattle.ocb_variables.proofs.l_table.Goals as goal

pub loop-i-init : goal.loop-i-init
loop-i-init c = (refl, filled_none (block_of c.from-l.result) (zeros table_bytes))

pub loop-i-preserved : goal.loop-i-preserved
loop-i-preserved c =
    let l = c.loop-i in
    let first = c.from-l in
    let next = c.doubled-l in
    let row = c.from in
    let stored = c.store in (
      stored.auto.s ∙ l.invariant.0,
      filled_more (block_of first.result) (zeros table_bytes) l.table (block_of l.l) stored.new.s (block_of next.result) l.i l.invariant.1
          next.ensures (stored.ensures ∙ ap (λ (S : List ℕ). take (l.i * 16) l.table ++ (S ++ drop (l.i * 16 + 16) l.table)) row.ensures),
    )

pub returns : goal.returns
returns c =
    let first = c.from-l in
    let m = c.args.m in
    let l = c.loop-i in
    let e : l.i ≡ m + 1 = omega arith in
    filled_all (block_of first.result) l.table (block_of l.l) m
    (subst (Filled (block_of first.result) (zeros table_bytes) l.table (block_of l.l)) e l.invariant.1)
    ∙ ap (λ (d : List ℕ). table_of d m) first.ensures
