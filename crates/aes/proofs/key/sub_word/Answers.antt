-- `aes::key::sub_word` meets its contract: the table's entries are the S-box's values.
-- Assumes nothing.
use mathlib.Core.Path.{◌∙◌}
use Rattle.standards.specs.Fips197.{sbox}
use Rattle.block.proofs.Owned.{owned_bytes}
use Rattle.aes_steps.proofs.LookUpLaws.{sbox_at}
use Rattle.aes_steps.proofs.StateLaws.{each_byte_same}
use Rattle.aes.proofs.key.sub_word.Goals as goal

pub returns : goal.returns
returns c =
    let a = c.args.a in
    c.substitute.ensures ∙ each_byte_same _ sbox (sbox_at c.sbox.ensures) a (owned_bytes 4 a _ c.well_formed.0)
