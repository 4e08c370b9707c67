-- `ocb_variables::initial_offset` meets its contract: it is RFC 7253's, cut from the nonce's Stretch at its bottom. Assumes nothing.
use Rattle.ocb_variables.proofs.NonceLaws.{bottom_below, offset_made}
use Rattle.ocb_variables.proofs.initial_offset.Goals as goal

pub cut-requires : goal.cut-requires
cut-requires c = bottom_below _ _ _ c.nonce_dependent_variables-v.ensures

pub returns : goal.returns
returns c =
    offset_made _ _ _ c.nonce_dependent_variables-v.ensures c.cut.ensures
