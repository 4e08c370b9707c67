-- A state in a buffer of bytes, its parts one behind the other: round keys, their number of rounds, L_*, L_$, m and the table of L values. The two
-- numbers have 8 bytes, the highest first.
use Rattle.std.specs.Prelude.{List, ◌++◌, ℕ, ◌+◌, take, drop}
use Rattle.sizes.specs.Sizes.{round_key_bytes, table_bytes}
use Rattle.standards.specs.Strings.{num, to_bytes}
use Rattle.ocb_variables.specs.declared.State.{State}

-- where each part behind the round keys starts, and how many bytes there are in all
abbrev pub rounds_at : ℕ
rounds_at = round_key_bytes

abbrev pub star_at : ℕ
star_at = rounds_at + 8

abbrev pub dollar_at : ℕ
dollar_at = star_at + 16

abbrev pub m_at : ℕ
m_at = dollar_at + 16

abbrev pub table_at : ℕ
table_at = m_at + 8

abbrev pub state_size : ℕ
state_size = table_at + table_bytes

unfoldable pub encoded : State → List ℕ
encoded s =
    s.round_keys ++ (to_bytes 8 s.values.rounds ++ (s.values.star ++ (s.values.dollar ++ (to_bytes 8 s.values.m ++ s.table))))

-- whatever the bytes are
unfoldable pub decoded : List ℕ → State
decoded B = record {
  round_keys = take round_key_bytes B;
  values = record {
    rounds = num (take 8 (drop rounds_at B));
    star = take 16 (drop star_at B);
    dollar = take 16 (drop dollar_at B);
    m = num (take 8 (drop m_at B));
  };
  table = take table_bytes (drop table_at B);
}
