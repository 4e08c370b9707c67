-- `Run::hash_last` meets its contract: its calls make the offset, the padded part, the cipher's input and the sum. Assumes nothing.
use Rattle.ocb_variables.specs.Held.{key_of}
use Rattle.ocb_steps.proofs.StepLaws.{last_hash_some}
use Rattle.ocb_steps.proofs.Run.hash_last.Goals as goal

pub returns : goal.returns
returns c =
    let r = c.args.self in
    cc (last_hash_some (key_of c.args.k.now) r.offset r.sum c.args.part.now c.requires.0)
