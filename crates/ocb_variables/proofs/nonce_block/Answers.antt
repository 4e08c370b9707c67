-- `nonce_block` meets its contract: the nonce is laid over the end of what starts with the tag's length, and the byte before it is marked. Assumes nothing.
use Rattle.ocb_variables.proofs.NonceLaws.{nonce_made}
use Rattle.ocb_variables.proofs.nonce_block.Goals as goal

pub returns : goal.returns
returns c =
    let laid = c.copy_at in
    nonce_made c.args.t c.args.nonce.now c.requires.nonce_size.to _ laid.ensures
