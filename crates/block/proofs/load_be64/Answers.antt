-- `block::load_be64` meets its contract: std's number of eight bytes is theirs. Assumes nothing.
use mathlib.Core.Path.{◌≡◌, ap, ◌∙◌}
use native.Mathlib.Omega.{arith}
use lib.ListN.{length, drop, length-drop}
use lib.Seq.{length-take-le}
use Rattle.standards.specs.Strings.{num}
use Rattle.block.proofs.WordLaws.{num_is}
use Rattle.block.proofs.load_be64.Goals as goal

pub returns : goal.returns
returns c =
    let S = c.bytes_at.result in
    let e : length S ≡ 8 =
    ap length c.bytes_at.ensures ∙ length-take-le 8 (drop c.args.at c.args.s.now) (omega (arith, length-drop c.args.at c.args.s.now)) in
    c.from_be_bytes.ensures ∙ num_is 7 S e ∙ ap num c.bytes_at.ensures
