-- `lines::put_answer` meets its contract: three lines put one behind the other. Assumes nothing.
use native.Mathlib.Omega.{arith}
use Rattle.lines.specs.Text.{lines}
use Rattle.lines.proofs.Lines.{numbers_length, hex_line_length}
use Rattle.lines.proofs.Over.{puts}
use Rattle.lines.proofs.put_answer.Goals as goal

pub put_hex_line-b-requires : goal.put_hex_line-b-requires
put_hex_line-b-requires c = omega (arith, numbers_length c.args.number c.args.calls)

pub put_hex_line-requires : goal.put_hex_line-requires
put_hex_line-requires c = omega (arith, numbers_length c.args.number c.args.calls, hex_line_length c.args.text.now)

pub returns : goal.returns
unfolding lines
returns c = puts (omega arith) (puts (omega arith) c.put_numbers-a.ensures c.put_hex_line-b.ensures) c.put_hex_line.ensures
