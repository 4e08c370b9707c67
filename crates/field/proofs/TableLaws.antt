-- What a crate above reads in the tables: the entry at b is the rule's value at b.
-- Assumes nothing.
use mathlib.Core.Path.{◌≡◌, refl, ap, ◌∙◌}
use Prim.Native.Nat.{ℕ, zero, suc, ◌<◌}
use native.Mathlib.Nat.{not-suc-le-zero, le_of_suc-le-suc}
use lib.ListN.{length, get_or}
use Rattle.standards.specs.Fips197.{sbox, inv_sbox, rcon}
use Rattle.standards.specs.Strings.{tabulate}
use Rattle.field.specs.Tables.{sbox_table, inv_sbox_table, rcon_table}
use Rattle.field.specs.Tables.Body.{sbox_table_is, inv_sbox_table_is, rcon_table_is}

entry : (n : ℕ) (f : ℕ → ℕ) (i : ℕ) → i < n → get_or (tabulate n f) i 0 ≡ f i
entry zero f i h = absurd (not-suc-le-zero h)
entry (suc n) f zero h = refl
entry (suc n) f (suc i) h = entry n (λ k. f (suc k)) i (le_of_suc-le-suc h)

size : (n : ℕ) (f : ℕ → ℕ) → length (tabulate n f) ≡ n
size zero f = refl
size (suc n) f = ap suc (size n (λ k. f (suc k)))

pub sbox_entry : (b : ℕ) → b < 256 → get_or sbox_table b 0 ≡ sbox b
sbox_entry b h = ap (λ t. get_or t b 0) sbox_table_is ∙ entry 256 sbox b h

pub inv_sbox_entry : (b : ℕ) → b < 256 → get_or inv_sbox_table b 0 ≡ inv_sbox b
inv_sbox_entry b h = ap (λ t. get_or t b 0) inv_sbox_table_is ∙ entry 256 inv_sbox b h

pub rcon_entry : (i : ℕ) → i < 10 → get_or rcon_table i 0 ≡ rcon i
rcon_entry i h = ap (λ t. get_or t i 0) rcon_table_is ∙ entry 10 rcon i h

pub sbox_length : length sbox_table ≡ 256
sbox_length = ap length sbox_table_is ∙ size 256 sbox

pub inv_sbox_length : length inv_sbox_table ≡ 256
inv_sbox_length = ap length inv_sbox_table_is ∙ size 256 inv_sbox
