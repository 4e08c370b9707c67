-- What reading a row of a file answers and leaves, for every input, over what open answers and leaves (ocb/specs/Answers.antt).
use Rattle.std.specs.Prelude.{cond, not, ◌||◌, List, [], ◌∷◌, ◌++◌, ℕ, zero, suc, eqb, ltb, leb, length, take, drop}
use Rattle.ocb_numbers.specs.Numbers.{Rule, ◌if◌, first}
use Rattle.ocb_variables.specs.declared.State.{State}
use Rattle.ocb.specs.Answers.{Outcome, opened}
use Rattle.spill_form.specs.File.{count, tenant_of, file_number, ◌or_else◌}
use Rattle.spill_form.specs.Entries.{Entry, text_length, entry}
use Rattle.spill_form.specs.declared.Form.{Form}

-- the number, the count of cipher calls, how many bytes of the output were written, and the output as it stands afterwards
pub record Reading : Type 0 where
  pub number : ℕ
  pub calls : ℕ
  pub written : ℕ
  pub out : List ℕ

-- the numbers of row i of an accepted file S, for the tenant who asks and an output of `room` bytes
abbrev pub row_rules : Form → List ℕ → ℕ → ℕ → ℕ → List Rule
row_rules f S i asking room = (14 if leb (count S) i) ∷ (13 if not (eqb (tenant_of f S i) asking)) ∷ (9 if ltb room (text_length f S i)) ∷ []

unfoldable pub row_number : Form → List ℕ → ℕ → ℕ → ℕ → ℕ
row_number f S i asking room = first (row_rules f S i asking room)

-- a refusal by number calls nothing, writes nothing and leaves the output
abbrev pub read_refused : List ℕ → ℕ → Reading
read_refused out n = record { number = n; calls = 0; written = 0; out = out }

abbrev pub unless_read : ℕ → List ℕ → Reading → Reading
unless_read zero out done = done
unless_read (suc n) out done = read_refused out (suc n)

-- what open left of a text of n bytes, at the front of the output
abbrev pub at_front : ℕ → Outcome → List ℕ → Reading
at_front n o out = record { number = o.number; calls = o.calls; written = n; out = o.text ++ drop n out }

-- with 0 and 7: the plaintext, or zeros. Open's other numbers are refusals here too
abbrev pub by_open : ℕ → Outcome → List ℕ → Reading
by_open n o out = cond (eqb o.number 0 || eqb o.number 7) (at_front n o out) (read_refused out o.number)

-- an entry opened, with its tenant number's bytes as associated data
abbrev pub opened_entry : State → Entry → Outcome
opened_entry s e = opened s e.nonce e.ad e.text e.tag

-- row i of S, opened
unfoldable pub opened_row : Form → State → List ℕ → ℕ → List ℕ → Reading
opened_row f s S i out = by_open (text_length f S i) (opened_entry s (entry f S i)) out

-- row i of the file that is the first `file` bytes of the buffer B, read under the state s by a tenant into an output
unfoldable pub reading : Form → State → List ℕ → ℕ → ℕ → ℕ → List ℕ → Reading
reading f s B file i asking out =
    unless_read (file_number f B file or_else row_number f (take file B) i asking (length out)) out (opened_row f s (take file B) i out)
