-- `tags_equal` meets its contract. The loop's invariant: the difference is 0 where the first i bytes are the same.
-- Assumes nothing.
use mathlib.Core.Path.{◌≡◌, refl, ap, ◌∙◌}
use mathlib.Core.List.{List}
use Prim.Native.Nat.{ℕ}
use native.Mathlib.Omega.{arith}
use borrow.Author.Rules.{rules}
use lib.ListN.{length, take}
use lib.Seq.{take-length}
use Rattle.standards.specs.Strings.{◌⊕◌}
use Rattle.standards.specs.Rfc7253.{same}
use Rattle.ocb_walk.proofs.TagLaws.{same_turn}
use Rattle.ocb_walk.proofs.tag.tags_equal.Goals as goal

pub loop-i-init : goal.loop-i-init
unfolding same
loop-i-init c = refl

pub loop-i-preserved : goal.loop-i-preserved
unfolding ◌⊕◌
loop-i-preserved c =
    let l = c.loop-i in
    let long : length c.args.computed ≡ 16 = search rules in
    same_turn c.args.computed c.args.given.now l.i l.difference (omega arith) (omega arith) l.invariant

pub returns : goal.returns
returns c =
    let l = c.loop-i in
    let k : List ℕ = c.args.computed in
    let t : List ℕ = c.args.given.now in
    let e : l.i ≡ length t = omega arith in
    l.invariant ∙ ap (λ (n : ℕ). same (take n k) (take n t)) e ∙ ap (same (take (length t) k)) (take-length t)
