-- `lines::put_hex_line` meets its contract: two strings put one behind the other. Assumes nothing.
use native.Mathlib.Omega.{arith}
use Rattle.lines.proofs.Over.{hex_length, puts}
use Rattle.lines.proofs.put_hex_line.Goals as goal

pub put-requires : goal.put-requires
put-requires c = omega (arith, hex_length c.args.s.now)

pub returns : goal.returns
returns c = puts (omega arith) c.put_hex-a.ensures c.put.ensures
