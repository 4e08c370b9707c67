-- `block::load_le32` meets its contract: std's number of four bytes is theirs. Assumes nothing.
use mathlib.Core.Path.{◌≡◌, ap, ◌∙◌}
use native.Mathlib.Omega.{arith}
use lib.ListN.{length, drop, length-drop}
use lib.Seq.{length-take-le}
use Rattle.block.specs.Words.{le}
use Rattle.block.proofs.WordLaws.{le_is}
use Rattle.block.proofs.load_le32.Goals as goal

pub returns : goal.returns
returns c =
    let S = c.bytes_at.result in
    let e : length S ≡ 4 =
    ap length c.bytes_at.ensures ∙ length-take-le 4 (drop c.args.at c.args.s.now) (omega (arith, length-drop c.args.at c.args.s.now)) in
    (c.from_le_bytes.ensures ∙ le_is 3 S e ∙ ap le c.bytes_at.ensures, c.from_le_bytes.type_inv)
