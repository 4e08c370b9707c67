-- The block of two words is the high word's bytes and, behind them, the low one's. Assumes nothing.
use mathlib.Core.Path.{ap₂}
use mathlib.Core.List.{List, ◌++◌}
use Prim.Native.Nat.{ℕ}
use borrow.Rule.Slice.PartMut.{put_mid}
use Rattle.standards.specs.Strings.{digits, zeros}
use Rattle.block.proofs.BlockFromHalves.from.Goals as goal

pub returns : goal.returns
unfolding digits
returns c = ap₂ (λ (S T : List ℕ). put_mid 8 8 (S ++ zeros 8) T) c.store_be64.ensures c.store_be64-2.ensures
