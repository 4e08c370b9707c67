-- `ocb_variables::cut` meets its contract: what the calls ensure, one after the other, is what `cut_made` asks for. Assumes nothing.
use mathlib.Core.Path.{◌∙◌}
use mathlib.Core.List.{List}
use Prim.Native.Nat.{ℕ}
use borrow.Author.Rules.{rules}
use Rattle.block.proofs.Owned.{owned_bytes}
use Rattle.ocb_variables.proofs.OffsetLaws.{cut_made}
use Rattle.ocb_variables.proofs.cut.Goals as goal

pub returns : goal.returns
returns c =
    let S : List ℕ = c.args.stretch in
    c.from.ensures
    ∙ cut_made S c.args.bottom (search rules) (owned_bytes 24 S _ c.well_formed.0) c.requires
    c.load_be64-a.ensures
    c.load_be64-b.ensures
    c.load_be64-c.ensures
    c.bits_from.ensures
    c.bits_from-2.ensures
