-- `field::inv_sbox` meets its contract: the 256 entries of the code's table are computed by the rule and compared.
-- Assumes nothing.
use mathlib.Core.Path.{sym}
use Rattle.standards.specs.Strings.{◌⊕◌}
use Rattle.standards.specs.Fips197.{xtime, times, ◌•◌, power, inverse, inv_affine, inv_sbox}
use Rattle.field.specs.Tables.Body.{inv_sbox_table_is}
use Rattle.field.proofs.inv_sbox.Goals as goal

pub returns : goal.returns
unfolding inv_sbox inv_affine inverse power ◌•◌ times xtime ◌⊕◌
returns c = sym inv_sbox_table_is
