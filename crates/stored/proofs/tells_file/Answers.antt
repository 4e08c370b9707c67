-- `stored::tells_file` meets its contract: the comparison of slices decides whether they are the same. Assumes nothing.
use mathlib.Core.Path.{◌≡◌}
use mathlib.Core.List.{List}
use Prim.Native.Nat.{ℕ}
use native.Mathlib.Omega.{arith}
use borrow.Author.Rules.{rules}
use lib.ListN.{drop}
use Rattle.std.specs.Bool.{Decides}
use Rattle.std.proofs.lemmas.Bool.Decides.{Decides-eqb}
use Rattle.std.proofs.lemmas.Slice.Eq.{slice_eq-Decides}
use Rattle.std.proofs.lemmas.Grind.{common_steps}
use Rattle.stored.proofs.Replied.{rest}
use Rattle.stored.proofs.tells_file.Goals as goal

pub returns : goal.returns
returns c =
    let S : List ℕ = c.args.stored.now in
    let B : List ℕ = c.args.left.now in
    let left : Decides c.eq-same_left.result (drop 13 S ≡ B) =
    slice_eq-Decides Decides-eqb (drop 13 S) B c.eq-same_left.result (search (rules, rest 13 S, c.eq-same_left.ensures)) in
    grind (arith, common_steps)
