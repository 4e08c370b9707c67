-- `aes_steps::sub_bytes` meets its contract: the lent table's entries are the S-box's values.
-- Assumes nothing.
use mathlib.Core.Path.{◌∙◌}
use Rattle.standards.specs.Fips197.{sbox}
use Rattle.aes_steps.proofs.LookUpLaws.{sbox_at}
use Rattle.aes_steps.proofs.StateLaws.{each_state_same}
use Rattle.aes_steps.proofs.OwnedState.{owned_state}
use Rattle.aes_steps.proofs.sub_bytes.Goals as goal

pub returns : goal.returns
returns c = c.substitute_all.ensures ∙ each_state_same _ sbox (sbox_at c.requires) (owned_state c.args.s _ c.well_formed.1.0)
