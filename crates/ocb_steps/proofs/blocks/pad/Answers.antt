-- `pad` meets its contract: the part is copied over the front of zeros, and marked behind. Assumes nothing.
use Rattle.ocb_steps.proofs.PadLaws.{pad_made}
use Rattle.ocb_steps.proofs.blocks.pad.Goals as goal

pub returns : goal.returns
returns c =
    pad_made c.args.p.now _ c.requires c.copy.ensures
