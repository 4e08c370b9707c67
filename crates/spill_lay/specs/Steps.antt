-- What the steps of laying a row and a body leave of a buffer.
use Rattle.std.specs.Prelude.{◌≡◌, List, ◌++◌, ℕ, zero, suc, ◌+◌, ◌-◌, length, take, drop}
use Rattle.block.specs.Words.{le_bytes}
use Rattle.ocb_variables.specs.declared.State.{State}
use Rattle.spill_form.specs.File.{bytes_at, word_at, row_at}
use Rattle.spill_form.specs.Adding.{sealed_for}
use Rattle.spill_form.specs.declared.Form.{Form}
use Rattle.spill_lay.specs.declared.Sealed.{Sealed}

-- B with M over its bytes from place at on
unfoldable pub over : List ℕ → ℕ → List ℕ → List ℕ
over B at M = take at B ++ (M ++ drop (at + length M) B)

-- B with its bytes from..to copied to where they stand `by` places on
unfoldable pub moved : List ℕ → ℕ → ℕ → ℕ → List ℕ
moved B from to by = over B (from + by) (bytes_at B from (to - from))

-- B with the places in its first n rows raised
unfoldable pub raised : Form → ℕ → ℕ → List ℕ → List ℕ
raised f by zero B = B
raised f by (suc i) B = over (raised f by i B) (row_at f i + 16) (le_bytes 4 (word_at (raised f by i B) (row_at f i + 16) + by))

-- B' is B with the text P at a place, sealed for a tenant; r is the count of calls and the tag
pub record SealedAt (s : State) (B : List ℕ) (at : ℕ) (N : List ℕ) (tenant : ℕ) (P : List ℕ) (r : Sealed) (B' : List ℕ) : Type 0 where
  pub calls : r.calls ≡ (sealed_for s N tenant P).calls
  pub tag : r.tag ≡ (sealed_for s N tenant P).tag
  pub tag_long : length r.tag ≡ 16
  pub long : length (sealed_for s N tenant P).text ≡ length P
  pub left : B' ≡ over B at (sealed_for s N tenant P).text
