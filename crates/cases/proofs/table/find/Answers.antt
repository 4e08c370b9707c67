-- `cases::table::find` meets its contract: each early return is at a flaw, and without any the places are those of the lengths read. Assumes nothing.
use mathlib.Core.Path.{ap, ◌∙◌}
use mathlib.Core.Bool.{not}
use mathlib.Core.List.{List}
use Prim.Native.Nat.{ℕ}
use native.Mathlib.Omega.{arith}
use borrow.Author.Tests.{lt-ltb, ne_eqb}
use lib.ListN.{length}
use Rattle.cases.specs.Case.{total, lengths}
use Rattle.cases.proofs.Flaws.{bad, Formed, good, placed}
use Rattle.cases.proofs.table.find.Goals as goal

pub returns-then-case-lt22 : goal.returns-then-case-lt22
returns-then-case-lt22 c = bad _ 0 (lt-ltb _ _ c.if-case-lt22.true)

pub returns-then-case-gt1 : goal.returns-then-case-gt1
returns-then-case-gt1 c = bad _ 1 (lt-ltb _ _ c.if-case-gt1.true)

pub returns-in_err-nonce : goal.returns-in_err-nonce
returns-in_err-nonce c = c.from_residual.ensures ∙ bad _ 2 (lt-ltb _ _ c.in_err-nonce.ensures)

pub returns-in_err-ad : goal.returns-in_err-ad
returns-in_err-ad c = c.from_residual-in_err-ad.ensures ∙ bad _ 3 (lt-ltb _ _ c.in_err-ad.ensures)

pub returns-in_err-text : goal.returns-in_err-text
returns-in_err-text c = c.from_residual-in_err-text.ensures ∙ bad _ 4 (lt-ltb _ _ c.in_err-text.ensures)

pub returns-in_err-tag : goal.returns-in_err-tag
returns-in_err-tag c = c.from_residual-in_err-tag.ensures ∙ bad _ 5 (lt-ltb _ _ c.in_err-tag.ensures)

pub returns-in_err-end : goal.returns-in_err-end
returns-in_err-end c = c.from_residual-in_err-end.ensures ∙ bad _ 6 (lt-ltb _ _ c.in_err-end.ensures)

pub returns-then-case-end : goal.returns-then-case-end
returns-then-case-end c =
    let S : List ℕ = c.args.case.now in
    let k = c.in_ok-nonce.ensures.0 in
    let n = c.in_ok-ad.ensures.0 in
    let a = c.in_ok-text.ensures.0 in
    let t = c.in_ok-tag.ensures.0 in
    let g = c.in_ok-end.ensures.0 in
    bad S 7 (ap not (ne_eqb (length S) (total (lengths S)) (λ e. omega (arith, e, k, n, a, t, g))))

pub returns : goal.returns
returns c =
    let S : List ℕ = c.args.case.now in
    let k = c.in_ok-nonce.ensures in
    let n = c.in_ok-ad.ensures in
    let a = c.in_ok-text.ensures in
    let t = c.in_ok-tag.ensures in
    let g = c.in_ok-end.ensures in
    let f : Formed S = record {
      table = omega arith;
      first = omega arith;
      key = omega (arith, k.0, k.1);
      nonce = omega (arith, n.0, n.1);
      ad = omega (arith, a.0, a.1);
      text = omega (arith, t.0, t.1);
      tag = omega (arith, g.0, g.1);
      size = omega (arith, k.0, n.0, a.0, t.0, g.0);
    } in
    placed S k.0 n.0 a.0 t.0 g.0 ∙ good S f
