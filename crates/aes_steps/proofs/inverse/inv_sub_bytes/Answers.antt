-- `aes_steps::inverse::inv_sub_bytes` meets its contract: the lent table's entries are the inverse S-box's values.
-- Assumes nothing.
use mathlib.Core.Path.{◌∙◌}
use Rattle.standards.specs.Fips197.{inv_sbox}
use Rattle.aes_steps.proofs.LookUpLaws.{inv_sbox_at}
use Rattle.aes_steps.proofs.StateLaws.{each_state_same}
use Rattle.aes_steps.proofs.OwnedState.{owned_state}
use Rattle.aes_steps.proofs.inverse.inv_sub_bytes.Goals as goal

pub returns : goal.returns
returns c = c.substitute_all.ensures ∙ each_state_same _ inv_sbox (inv_sbox_at c.requires) (owned_state c.args.s _ c.well_formed.1.0)
