-- `field::sbox` meets its contract: the 256 entries of the code's table are computed by the rule and compared.
-- Assumes nothing.
use mathlib.Core.Path.{sym}
use Rattle.standards.specs.Strings.{◌⊕◌}
use Rattle.standards.specs.Fips197.{xtime, times, ◌•◌, power, inverse, affine, sbox}
use Rattle.field.specs.Tables.Body.{sbox_table_is}
use Rattle.field.proofs.sbox.Goals as goal

pub returns : goal.returns
unfolding sbox affine inverse power ◌•◌ times xtime ◌⊕◌
returns c = sym sbox_table_is
