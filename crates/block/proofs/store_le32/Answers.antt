-- `block::store_le32` meets its contract: std's four bytes of a number's low 32 bits are its lowest four. Assumes nothing.
use mathlib.Core.Path.{ap, ◌∙◌}
use mathlib.Core.List.{List, ◌++◌}
use Prim.Native.Nat.{ℕ, ◌+◌, ◌%◌}
use lib.ListN.{length, take, drop}
use Rattle.block.specs.Words.{le_bytes}
use Rattle.block.proofs.WordLaws.{low_first, le_bytes_low}
use Rattle.block.proofs.store_le32.Goals as goal

pub returns : goal.returns
unfolding le_bytes
returns c =
    let S : List ℕ = c.args.s.now in
    let at : ℕ = c.args.at in
    let n : ℕ = c.args.n in
    c.copy_at.ensures
    ∙ ap (λ (T : List ℕ). take at S ++ (T ++ drop (at + length T) S)) (c.to_le_bytes.ensures ∙ low_first 4 (n % 0x100000000) ∙ le_bytes_low 4 n)
