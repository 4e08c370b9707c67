-- `Run::one` meets its contract: its calls make the offset, the text and the checksum of one block. Assumes nothing.
use Rattle.ocb_variables.specs.Held.{key_of}
use Rattle.ocb_steps.proofs.StepLaws.{one_made}
use Rattle.ocb_steps.proofs.Run.one.Goals as goal

pub returns : goal.returns
returns g c =
    one_made g.W.Way.opens (key_of c.args.k.now) c.args.one.now c.args.self c.requires.1
    c.load-b.ensures c.next_offset-offset.ensures c.turn-t.ensures c.plain.ensures
    c.xor-sum.ensures c.store.ensures
