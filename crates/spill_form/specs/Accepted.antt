-- What is known of a file that the numbers 10, 11 and 12 do not refuse (proofs/FileLaws.antt shows both directions), and of one that is being looked through.
use Rattle.std.specs.Prelude.{◌≡◌, false, List, ℕ, ◌+◌, ◌≤◌, ◌<◌, length, take}
use Rattle.spill_form.specs.File.{most_rows, most_bytes, least_body, count, row_at, tenant_of, place_of, length_of, running, flawed, any_below}
use Rattle.spill_form.specs.declared.Form.{Form}

-- S starts with a table
pub record Tabled (f : Form) (S : List ℕ) : Type 0 where
  pub counted : 4 ≤ length S
  pub few : count S ≤ most_rows
  pub room : row_at f (count S) ≤ length S

-- row i is without a flaw
pub record Sound (f : Form) (S : List ℕ) (i : ℕ) : Type 0 where
  pub tenant : tenant_of f S i ≡ 0 → ⊥
  pub least : least_body f ≤ length_of f S i
  pub place : place_of f S i ≡ running f S i
  pub end : place_of f S i + length_of f S i ≤ length S

-- each row is sound, and nothing stands behind the last body
pub record Accepted (f : Form) (S : List ℕ) : Type 0 where
  pub table : Tabled f S
  pub rows : (i : ℕ) → i < count S → Sound f S i
  pub ended : running f S (count S) ≡ length S

-- the first `file` bytes of the buffer B are an accepted file
pub record Within (f : Form) (B : List ℕ) (file : ℕ) : Type 0 where
  pub lent : file ≤ length B
  pub most : file ≤ most_bytes
  pub content : Accepted f (take file B)

-- the first 24 bytes of row i stand in S
pub record HasRow (f : Form) (S : List ℕ) (i : ℕ) : Type 0 where
  pub form : f.tag_in_row ≤ 16
  pub few : i ≤ most_rows
  pub inside : row_at f i + 24 ≤ length S

-- the rows before row i are without flaw, and the place behind their bodies is within the file
pub record Passed (f : Form) (S : List ℕ) (i run : ℕ) : Type 0 where
  pub counted : i ≤ count S
  pub run_is : run ≡ running f S i
  pub none : any_below (flawed f S) i ≡ false
  pub most : run ≤ length S
