-- What is known where a row and a body are laid into a buffer.
use Rattle.std.specs.Prelude.{◌≡◌, List, ℕ, ◌≤◌, ◌<◌, length, take}
use Rattle.standards.specs.Strings.{Bytes}
use Rattle.spill_form.specs.File.{most_rows, most_bytes, count}
use Rattle.spill_form.specs.Accepted.{Within}
use Rattle.spill_form.specs.Adding.{new_length}
use Rattle.spill_form.specs.declared.Form.{Form}

-- the file of n rows at the front of B is accepted and has room for one more; the nonce has twelve bytes, and the tenant is a number of four bytes and not 0
pub record Laying (f : Form) (B : List ℕ) (file n : ℕ) (N : List ℕ) (tenant : ℕ) (P : List ℕ) : Type 0 where
  pub form : f.tag_in_row ≤ 16
  pub bytes : Bytes (take file B)
  pub accepted : Within f B file
  pub counted : n ≡ count (take file B)
  pub few : n < most_rows
  pub most : new_length f (take file B) (length P) ≤ most_bytes
  pub room : new_length f (take file B) (length P) ≤ length B
  pub nonce_size : length N ≡ 12
  pub tenant_set : tenant ≡ 0 → ⊥
  pub tenant_size : tenant < 4294967296
