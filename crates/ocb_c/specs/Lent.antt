-- What the functions that ocb_link exports answer and leave, for every input: the entry points' answers (ocb/specs/Answers.antt, spill_form/specs/Reading.antt and
-- Adding.antt) over the state that a lent buffer holds, and one number of their own.
use Rattle.std.specs.Prelude.{◌≡◌, not, List, [], ◌∷◌, ℕ, zero, suc, eqb, length}
use Rattle.ocb.specs.declared.SetUp.{SetUp}
use Rattle.ocb_numbers.specs.Numbers.{Rule, ◌if◌, first}
use Rattle.ocb.specs.Answers.{set_up, Outcome, seal_refused, open_refused, unless, sealed, opened}
use Rattle.spill_form.specs.File.{tags_in_bodies}
use Rattle.spill_form.specs.Reading.{Reading, unless_read, reading}
use Rattle.spill_form.specs.Adding.{Adding, unless_add, adding}
use Rattle.ocb_c.specs.Buffer.{state_size, encoded, decoded}

-- 40 where the buffer has not the size of a state. It goes before every other number: such a buffer holds no state to look at, and no place for one.
abbrev pub buffer_rules : List ℕ → List Rule
buffer_rules B = (40 if not (eqb (length B) state_size)) ∷ []

unfoldable pub size_number : List ℕ → ℕ
size_number B = first (buffer_rules B)

-- ---- set up

pub record InBuffer : Type 0 where
  pub number : ℕ
  pub buffer : List ℕ

-- a buffer of the right size takes the state of every set-up, the zeros of a refused one too; another is left as it is
abbrev pub into : ℕ → List ℕ → SetUp → InBuffer
into zero B u = record { number = u.number; buffer = encoded u.state }
into (suc n) B u = record { number = suc n; buffer = B }

unfoldable pub set_up_in : List ℕ → List ℕ → ℕ → InBuffer
set_up_in B key m = into (size_number B) B (set_up key m)

-- THE PROMISE of ocb_set_up: the number, and the buffer B' that is left, are the outcome's
pub record Kept (o : InBuffer) (number : ℕ) (B' : List ℕ) : Type 0 where
  pub number_is : number ≡ o.number
  pub buffer_left : B' ≡ o.buffer

-- ---- seal and open, under the state that the buffer B holds; their promise is ocb's `Leaves`

unfoldable pub sealed_in : List ℕ → List ℕ → List ℕ → List ℕ → List ℕ → Outcome
sealed_in B N A P T = unless (size_number B) (seal_refused P T) (sealed (decoded B) N A P T)

unfoldable pub opened_in : List ℕ → List ℕ → List ℕ → List ℕ → List ℕ → Outcome
opened_in B N A C T = unless (size_number B) (open_refused C T) (opened (decoded B) N A C T)

-- ---- spill files: the state that the buffer B holds, and the file that is the first bytes of the buffer F; their promises are `Reads` and `Adds`

unfoldable pub read_in : List ℕ → List ℕ → ℕ → ℕ → ℕ → List ℕ → Reading
read_in B F file row tenant out = unless_read (size_number B) out (reading tags_in_bodies (decoded B) F file row tenant out)

unfoldable pub added_in : List ℕ → List ℕ → ℕ → List ℕ → ℕ → List ℕ → Adding
added_in B F file N tenant P = unless_add (size_number B) F file (adding tags_in_bodies (decoded B) F file N tenant P)
