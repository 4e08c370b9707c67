-- What adding a row to a file answers and leaves, for every input, over what seal answers and leaves (ocb/specs/Answers.antt).
use Rattle.std.specs.Prelude.{Bool, cond, ◌||◌, List, [], ◌∷◌, ◌++◌, ℕ, zero, suc, ◌+◌, eqb, ltb, length, take, drop}
use Rattle.standards.specs.Strings.{zeros}
use Rattle.standards.specs.Rfc7253.{same}
use Rattle.block.specs.Words.{le_bytes}
use Rattle.ocb_numbers.specs.Numbers.{Rule, ◌if◌, first}
use Rattle.ocb_variables.specs.declared.State.{State}
use Rattle.ocb.specs.Answers.{Outcome, sealed}
use Rattle.spill_form.specs.File.{most_rows, most_bytes, row_size, least_body, count, nonce_of, any_below, file_number, ◌or_else◌}
use Rattle.spill_form.specs.Entries.{Entry, entries, build}
use Rattle.spill_form.specs.declared.Form.{Form}

-- the number, the count of cipher calls, and the file's length and the buffer as they stand afterwards
pub record Adding : Type 0 where
  pub number : ℕ
  pub calls : ℕ
  pub file : ℕ
  pub buffer : List ℕ

-- the length of the file S with one more row, and its body for a text of n bytes
abbrev pub new_length : Form → List ℕ → ℕ → ℕ
new_length f S n = length S + row_size f + (n + least_body f)

-- a row of the file S has the nonce N
abbrev pub nonce_in : Form → List ℕ → List ℕ → Bool
nonce_in f S N = any_below (λ i. same (nonce_of f S i) N) (count S)

-- the numbers of an addition to an accepted file S in a buffer of `room` bytes: a nonce N, a tenant, a text of n bytes
abbrev pub add_rules : Form → List ℕ → List ℕ → ℕ → ℕ → ℕ → List Rule
add_rules f S N tenant n room =
    (17 if eqb tenant 0) ∷ (15 if nonce_in f S N)
    ∷ (16 if (eqb (count S) most_rows || ltb most_bytes (new_length f S n) || ltb room (new_length f S n))) ∷ []

unfoldable pub add_number : Form → List ℕ → List ℕ → ℕ → ℕ → ℕ → ℕ
add_number f S N tenant n room = first (add_rules f S N tenant n room)

-- a nonce that is not of twelve bytes is answered as one of no bytes is, with 3
abbrev pub of_twelve : List ℕ → List ℕ
of_twelve N = cond (eqb (length N) 12) N []

-- the text P sealed for a tenant, with a tag of sixteen bytes
abbrev pub sealed_for : State → List ℕ → ℕ → List ℕ → Outcome
sealed_for s N tenant P = sealed s (of_twelve N) (le_bytes 4 tenant) P (zeros 16)

abbrev pub new_entry : State → List ℕ → ℕ → List ℕ → Entry
new_entry s N tenant P = record { nonce = N; ad = le_bytes 4 tenant; text = (sealed_for s N tenant P).text; tag = (sealed_for s N tenant P).tag }

-- a refusal by number calls nothing and changes nothing
abbrev pub unless_add : ℕ → List ℕ → ℕ → Adding → Adding
unless_add zero B file done = done
unless_add (suc n) B file done = record { number = suc n; calls = 0; file = file; buffer = B }

-- the file of the entries that were there and the new one, and the buffer's bytes past it as they were
unfoldable pub added : Form → State → List ℕ → ℕ → List ℕ → ℕ → List ℕ → Adding
added f s B file N tenant P = record {
  number = 0;
  calls = (sealed_for s N tenant P).calls;
  file = new_length f (take file B) (length P);
  buffer = build f (entries f (take file B) ++ (new_entry s N tenant P ∷ [])) ++ drop (new_length f (take file B) (length P)) B;
}

-- a text P added, under the state s and a nonce N, for a tenant, to the file that is the first `file` bytes of the buffer B
unfoldable pub adding : Form → State → List ℕ → ℕ → List ℕ → ℕ → List ℕ → Adding
adding f s B file N tenant P =
    unless_add (file_number f B file or_else add_number f (take file B) N tenant (length P) (length B) or_else (sealed_for s N tenant P).number) B file
    (added f s B file N tenant P)
