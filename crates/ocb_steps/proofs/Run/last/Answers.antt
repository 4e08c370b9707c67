-- `Run::last` meets its contract: its calls make the offset, the text, and the checksum of the padded plaintext. Assumes nothing.
use Rattle.ocb_variables.specs.Held.{key_of}
use Rattle.ocb_steps.proofs.StepLaws.{last_either}
use Rattle.ocb_steps.proofs.Run.last.Goals as goal

pub returns : goal.returns
returns g c =
    last_either g.W.Way.opens (key_of c.args.k.now) c.args.part.now c.args.self
    c.pad-before.ensures c.xor-offset.ensures c.pad.ensures c.plain.ensures c.xor-sum.ensures
    c.encipher.ensures c.inplace_xor.ensures
