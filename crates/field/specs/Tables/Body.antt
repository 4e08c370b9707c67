-- What the tables are.
use Rattle.std.specs.Prelude.{◌≡◌, refl}
use Rattle.standards.specs.Fips197.{sbox, inv_sbox, rcon}
use Rattle.standards.specs.Strings.{tabulate}
use Rattle.field.specs.Tables.{sbox_table, inv_sbox_table, rcon_table}

pub sbox_table_is : sbox_table ≡ tabulate 256 sbox
unfolding sbox_table
sbox_table_is = refl

pub inv_sbox_table_is : inv_sbox_table ≡ tabulate 256 inv_sbox
unfolding inv_sbox_table
inv_sbox_table_is = refl

pub rcon_table_is : rcon_table ≡ tabulate 10 rcon
unfolding rcon_table
rcon_table_is = refl
