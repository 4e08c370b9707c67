-- What the walks leave: of a text S from the first offset O on, the bytes S' and the run r'.
use Rattle.std.specs.Prelude.{◌≡◌, Bool, true, false, List, ◌++◌, ℕ}
use Rattle.standards.specs.Rfc7253.{Key, wholes, rest, Offset, Blocks, Sum, text, end_offset, seal_sum, open_sum}
use Rattle.ocb_steps.specs.declared.Run.{Run}
use Rattle.ocb_steps.specs.Steps.{turned, summed}

-- the run after the first i blocks, of which the sum takes what g makes
unfoldable pub run_at : (List ℕ → List ℕ → List ℕ) → Key → List ℕ → List ℕ → ℕ → Run
run_at g K O S i = record { done = i; offset = Offset K O i; sum = Sum g K O S i }

-- the whole blocks are sealed or opened, and the last part is as it was
pub record Walked (opens : Bool) (K : Key) (O S S' : List ℕ) (r' : Run) : Type 0 where
  pub run : r' ≡ run_at (summed opens K) K O S (wholes S)
  pub text : S' ≡ Blocks (turned opens K) K O S (wholes S) ++ rest S

-- the checksum that goes into the tag
abbrev pub checksum : Bool → Key → List ℕ → List ℕ → List ℕ
checksum false = seal_sum
checksum true = open_sum

-- the whole text is: f makes the whole blocks, sum gives the checksum that goes into the tag
pub record Ended (f : Key → List ℕ → List ℕ → List ℕ) (sum : Key → List ℕ → List ℕ → List ℕ) (K : Key) (O S S' : List ℕ) (r' : Run) : Type 0 where
  pub run_is : r' ≡ record { done = wholes S; offset = end_offset K O S; sum = sum K O S }
  pub text_is : S' ≡ text f K O S
