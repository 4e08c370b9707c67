-- `stored::tells` meets its contract: each comparison of slices decides whether they are the same. Assumes nothing.
use mathlib.Core.Path.{◌≡◌}
use mathlib.Core.List.{List}
use Prim.Native.Nat.{ℕ, ◌+◌}
use borrow.Author.Rules.{rules}
use lib.ListN.{length, take, drop}
use Rattle.std.specs.Bool.{Decides}
use Rattle.std.proofs.lemmas.Bool.Decides.{Decides-eqb}
use Rattle.std.proofs.lemmas.Slice.Eq.{slice_eq-Decides}
use Rattle.stored.proofs.Replied.{rest}
use Rattle.stored.proofs.tells.Goals as goal

pub returns : goal.returns
returns c =
    let S : List ℕ = c.args.stored.now in
    let T : List ℕ = c.args.text.now in
    let G : List ℕ = c.args.tag.now in
    let text : Decides c.eq-same_text.result (take (length T) (drop 5 S) ≡ T) =
    slice_eq-Decides Decides-eqb (take (length T) (drop 5 S)) T c.eq-same_text.result (search (rules, c.eq-same_text.ensures)) in
    let tag : Decides c.eq-same_tag.result (drop (5 + length T) S ≡ G) =
    slice_eq-Decides Decides-eqb (drop (5 + length T) S) G c.eq-same_tag.result (search (rules, rest (5 + length T) S, c.eq-same_tag.ensures)) in
    search rules
