-- A table that is lent and known to be a rule's table has the rule's values.
-- Assumes nothing.
use mathlib.Core.Path.{◌≡◌, ap, ◌∙◌}
use mathlib.Core.List.{List}
use Prim.Native.Nat.{ℕ, ◌<◌}
use lib.ListN.{get_or}
use Rattle.standards.specs.Fips197.{sbox, inv_sbox}
use Rattle.field.specs.Tables.{sbox_table, inv_sbox_table}
use Rattle.field.proofs.TableLaws.{sbox_entry, inv_sbox_entry}
use Rattle.aes_steps.specs.LookUp.{look_up}

pub sbox_at : {t : List ℕ} → t ≡ sbox_table → (b : ℕ) → b < 256 → look_up t b ≡ sbox b
unfolding look_up
sbox_at e b h = ap (λ l. get_or l b 0) e ∙ sbox_entry b h

pub inv_sbox_at : {t : List ℕ} → t ≡ inv_sbox_table → (b : ℕ) → b < 256 → look_up t b ≡ inv_sbox b
unfolding look_up
inv_sbox_at e b h = ap (λ l. get_or l b 0) e ∙ inv_sbox_entry b h
