-- The tables by their rules: entry b of an S-box is the S-box of b, and entry i of the round constants is 1 doubled i times.
-- They are shut: a crate above hands them on and cannot look into them.
use Rattle.std.specs.Prelude.{List, ℕ}
use Rattle.standards.specs.Strings.{tabulate}
use Rattle.standards.specs.Fips197.{sbox, inv_sbox, rcon}
-- the equations, for this crate's proofs
pub mod Body

pub sbox_table : List ℕ
sbox_table = tabulate 256 sbox

pub inv_sbox_table : List ℕ
inv_sbox_table = tabulate 256 inv_sbox

pub rcon_table : List ℕ
rcon_table = tabulate 10 rcon
