-- `text` meets its contract: the whole blocks are walked, and a last part is sealed or opened behind them. Assumes nothing.
use mathlib.Core.Path.{refl}
use Prim.Native.Nat.{◌-◌, ◌*◌, ◌/◌}
use native.Mathlib.Omega.{arith}
use lib.ListN.{length}
use Rattle.ocb_variables.specs.Held.{key_of}
use Rattle.ocb_walk.proofs.EndLaws.{ended_whole, ended_part}
use Rattle.ocb_walk.proofs.text.text.Goals as goal

pub returns-then-whole-s : goal.returns-then-whole-s
returns-then-whole-s g c =
    let text = c.args.s.now in
    ended_part g.W.Way.opens (key_of c.args.k.now) c.args.o text c.walk-r.auto.s c.walk-r.ensures (length c.walk-r.new.s - length text / 16 * 16)
    (omega arith) (omega (arith, c.walk-r.auto.s)) refl c.last.ensures

pub returns : goal.returns
returns g c =
    ended_whole g.W.Way.opens (key_of c.args.k.now) c.args.o c.args.s.now c.walk-r.auto.s c.walk-r.ensures (omega arith)
