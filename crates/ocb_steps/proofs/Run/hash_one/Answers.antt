-- `Run::hash_one` meets its contract: its calls make the offset and the sum. Assumes nothing.
use Rattle.ocb_variables.specs.Held.{key_of}
use Rattle.ocb_steps.proofs.StepLaws.{hash_made}
use Rattle.ocb_steps.proofs.Run.hash_one.Goals as goal

pub returns : goal.returns
returns c =
    hash_made (key_of c.args.k.now) c.args.b c.args.self
    c.next_offset-offset.ensures c.xor.ensures c.encipher.ensures c.xor-sum.ensures
