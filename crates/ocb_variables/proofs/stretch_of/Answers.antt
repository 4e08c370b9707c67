-- `ocb_variables::stretch_of` meets its contract. The loop's invariant: `j` of the eight bytes are pasted behind Ktop. Assumes nothing.
use mathlib.Core.Path.{◌≡◌, ap, ◌∙◌}
use mathlib.Core.List.{List, ◌++◌}
use Prim.Native.Nat.{ℕ}
use native.Mathlib.Omega.{arith}
use borrow.Author.Rules.{rules}
use lib.ListN.{length-append}
use lib.Seq.{paste, paste-zero}
use Rattle.standards.specs.Strings.{◌⊕◌, zeros}
use Rattle.ocb_variables.proofs.NonceLaws.{behind, stretch_turn, stretch_made}
use Rattle.ocb_variables.proofs.stretch_of.Goals as goal

pub loop-j-init : goal.loop-j-init
loop-j-init c =
    let k : List ℕ = c.args.ktop in
    (search rules, c.store.ensures ∙ paste-zero (k ++ zeros 8) 16 (behind k))

pub loop-j-preserved : goal.loop-j-preserved
unfolding ◌⊕◌
loop-j-preserved c =
    let l = c.loop-j in
    let k : List ℕ = c.args.ktop in (
      l.invariant.0,
      stretch_turn k l.invariant.0 (k ++ zeros 8) l.stretch l.j (simp length-append (omega arith)) c.loop-j-test.true l.invariant.1,
    )

pub returns : goal.returns
returns c =
    let l = c.loop-j in
    let k : List ℕ = c.args.ktop in
    let e : l.j ≡ 8 = omega arith in
    stretch_made k l.invariant.0 l.stretch (l.invariant.1 ∙ ap (paste (k ++ zeros 8) 16 (behind k)) e)
