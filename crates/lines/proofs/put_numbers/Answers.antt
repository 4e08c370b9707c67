-- `lines::put_numbers` meets its contract: three strings put one behind the other. Assumes nothing.
use native.Mathlib.Omega.{arith}
use Rattle.lines.specs.Text.{answer_word, calls_word}
use Rattle.lines.proofs.Lines.{named_length}
use Rattle.lines.proofs.Over.{puts}
use Rattle.lines.proofs.put_numbers.Goals as goal

pub put_named-b-requires : goal.put_named-b-requires
put_named-b-requires c = omega (arith, named_length answer_word c.args.number)

pub put-requires : goal.put-requires
put-requires c = omega (arith, named_length answer_word c.args.number, named_length calls_word c.args.calls)

pub returns : goal.returns
returns c = puts (omega arith) (puts (omega arith) c.put_named-a.ensures c.put_named-b.ensures) c.put.ensures
