-- What a state holds, as the procedures of RFC 7253 take it from a key: the cipher under its round keys, and the L values that stand in it.
use Rattle.std.specs.Prelude.{List, ℕ}
use Rattle.standards.specs.Rfc7253.{Key, block_at}
use Rattle.aes.specs.Cipher.{enc, dec}
use Rattle.ocb_variables.specs.declared.KeyValues.{KeyValues}
use Rattle.ocb_variables.specs.declared.State.{State}
use Rattle.ocb_variables.specs.declared.LentKey.{LentKey}

-- the key that lent parts are: round keys rk, a table whose block i is L_i, and the values v
abbrev pub lent_key : List ℕ → List ℕ → KeyValues → Key
lent_key rk table v = record {
  ENCIPHER = enc v.rounds rk;
  DECIPHER = dec v.rounds rk;
  L-* = v.star;
  L-$ = v.dollar;
  L = λ i. block_at table i;
}

abbrev pub held : State → Key
held s = lent_key s.round_keys s.table s.values

-- and the key that is lent to the walks
abbrev pub key_of : LentKey → Key
key_of k = lent_key k.cipher.round_keys.now k.table.now (record { rounds = k.cipher.rounds; star = k.star; dollar = k.dollar; m = k.m })
