-- `field::round_constants` meets its contract: each entry is computed by repeated doubling and compared.
-- Assumes nothing.
use mathlib.Core.Path.{sym}
use Rattle.standards.specs.Strings.{◌⊕◌}
use Rattle.standards.specs.Fips197.{xtime, rcon}
use Rattle.field.specs.Tables.Body.{rcon_table_is}
use Rattle.field.proofs.round_constants.Goals as goal

pub returns : goal.returns
unfolding rcon xtime ◌⊕◌
returns c = sym rcon_table_is
