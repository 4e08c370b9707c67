-- `ocb_variables::nonce_dependent_variables` meets its contract: the masks split the nonce block, and the calls do the rest. Assumes nothing.
use Rattle.block.proofs.Owned.{owned_bytes}
use Rattle.ocb_variables.proofs.NonceLaws.{variables_made}
use Rattle.ocb_variables.proofs.nonce_dependent_variables.Goals as goal

pub returns : goal.returns
returns c =
    let block = c.nonce_block-top in
    variables_made _ _ _ block.ensures (owned_bytes 16 block.result _ block.type_inv 15) c.encipher.ensures c.stretch_of-stretch.ensures
