-- `block::inplace_xor` meets its contract. The loop's invariant: `a` is xored with the first `i` bytes of `b`. Assumes nothing.
use mathlib.Core.Path.{◌≡◌, refl, ap, ◌∙◌}
use Prim.Native.Nat.{ℕ}
use native.Mathlib.Omega.{arith}
use borrow.Author.Rules.{rules}
use lib.ListN.{length, take}
use Rattle.standards.specs.Strings.{◌⊕◌, ◌xor◌}
use Rattle.block.proofs.StringLaws.{xor_turn, xor_take}
use Rattle.block.proofs.inplace_xor.Goals as goal

pub loop-i-init : goal.loop-i-init
unfolding ◌xor◌
loop-i-init c = (refl, search rules)

pub loop-i-preserved : goal.loop-i-preserved
unfolding ◌⊕◌
loop-i-preserved c =
    let l = c.loop-i in
    (xor_turn c.args.a.now c.args.b l.a l.i (omega (arith, l.invariant.1)) l.invariant.0, l.invariant.1)

pub returns : goal.returns
returns c =
    let l = c.loop-i in
    let e : l.i ≡ length c.args.a.now = omega arith in
    l.invariant.0 ∙ ap (λ (k : ℕ). c.args.a.now xor take k c.args.b) e ∙ xor_take c.args.a.now c.args.b
