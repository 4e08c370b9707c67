-- The state that a key is made into holds what RFC 7253 takes from that key, but for the L values that its table has no room for.
-- Each field is its definition; a row of the table is `table_at`. Assumes nothing.
use mathlib.Core.Path.{◌≡◌, refl, ap, ◌∙◌}
use mathlib.Core.List.{List}
use Prim.Native.Nat.{ℕ, ◌≤◌}
use lib.ListN.{length}
use Rattle.sizes.specs.Sizes.{m_most, table_bytes}
use Rattle.standards.specs.Strings.{zeros, Bytes, Block}
use Rattle.standards.specs.Rfc7253.{keyed, double}
use Rattle.block.proofs.StringLaws.{block_zeros}
use Rattle.ocb_laws.proofs.Agree.{Agrees}
use Rattle.aes.specs.Cipher.{enc, dec}
use Rattle.aes.proofs.Promise.{enc_block}
use Rattle.ocb_variables.specs.declared.State.{State}
use Rattle.ocb_variables.specs.Held.{held}
use Rattle.ocb_variables.specs.State.{table_of, state_of}
use Rattle.ocb_variables.proofs.BlockLaws.{double_block}
use Rattle.ocb_variables.proofs.TableLaws.{table_length, table_bytes_lem, table_at}

pub state_agrees : (rk : List ℕ) (rounds m : ℕ) → Agrees m (held (state_of rk rounds m)) (keyed (enc rounds rk) (dec rounds rk))
unfolding state_of
state_agrees rk rounds m = record {
  enciphers = refl;
  deciphers = refl;
  star = refl;
  dollar = refl;
  table = table_at (double (enc rounds rk (zeros 16))) m;
}

-- what the state holds are blocks, and a table of bytes with all its places
pub record Sized (s : State) : Type 0 where
  pub star : Block s.values.star
  pub dollar : Block s.values.dollar
  pub table : length s.table ≡ table_bytes
  pub bytes : Bytes s.table

pub state_sized : (rk : List ℕ) (rounds m : ℕ) → Bytes rk → m ≤ m_most → Sized (state_of rk rounds m)
unfolding state_of
state_sized rk rounds m hrk h =
    let star : List ℕ = enc rounds rk (zeros 16) in
    record {
      star = enc_block rounds rk (zeros 16) hrk block_zeros;
      dollar = double_block star;
      table = table_length (double star) m h;
      bytes = table_bytes_lem (double star) m;
    }

-- the state from its fields, as set-up makes them one after the other
pub state_made : {star dollar table : List ℕ} (rk : List ℕ) (rounds m : ℕ) → star ≡ enc rounds rk (zeros 16) → dollar ≡ double star → table ≡ table_of dollar m
    → ◌≡◌ {A = State} (record { round_keys = rk; table = table; values = record { rounds = rounds; m = m; star = star; dollar = dollar } }) (state_of rk rounds m)
unfolding state_of
state_made {star} {dollar} {table} rk rounds m es ed et =
    let ed' : dollar ≡ double (enc rounds rk (zeros 16)) = ed ∙ ap double es in
    let et' : table ≡ table_of (double (enc rounds rk (zeros 16))) m = et ∙ ap (λ (S : List ℕ). table_of S m) ed' in
    cc
