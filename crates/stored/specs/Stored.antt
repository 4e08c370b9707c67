-- What is stored of the answer to a case: its number in one byte, its count of cipher calls in four, the lowest first, then the text and the tag as they
-- stand afterwards. Of a bad case nothing is stored.
use Rattle.std.specs.Prelude.{◌≡◌, Bool, true, false, List, ℕ, ◌+◌, ◌*◌, ◌≤◌, length, get_or, take, drop}
use Rattle.ocb.specs.Answers.{Outcome}
use Rattle.spill_form.specs.Reading.{Reading}
use Rattle.spill_form.specs.Adding.{Adding}
use Rattle.ocb_c.specs.Lent.{sealed_in, opened_in}
use Rattle.cases.specs.Case.{word, Decoded, bad, good, outcome}

-- the stored bytes S tell just this outcome
pub record Tells (S : List ℕ) (o : Outcome) : Type 0 where
  pub head : 5 ≤ length S
  pub number : get_or S 0 0 ≡ o.number
  pub calls : word S 1 ≡ o.calls
  pub text : take (length o.text) (drop 5 S) ≡ o.text
  pub tag : drop (5 + length o.text) S ≡ o.tag

-- the stored bytes S are what is owed for a case, as it is decoded
abbrev pub Owed : Decoded → List ℕ → Type 0
Owed bad S = length S ≡ 0
Owed (good c) S = Tells S (outcome c)

-- an open or a seal under the state that the buffer B holds, whether set-up made it or not
abbrev pub under : Bool → List ℕ → List ℕ → List ℕ → List ℕ → List ℕ → Outcome
under true B N A S T = opened_in B N A S T
under false B N A S T = sealed_in B N A S T

-- of a call on a spill file: number and count as above, then in eight bytes, the lowest first, how many bytes of the output were written, or how long the
-- file is afterwards; then the output, or the buffer, as it stands afterwards
pub record TellsFile (S : List ℕ) (number calls size : ℕ) (left : List ℕ) : Type 0 where
  pub head : 13 ≤ length S
  pub number_is : get_or S 0 0 ≡ number
  pub calls_are : word S 1 ≡ calls
  pub size_is : word S 5 + 4294967296 * word S 9 ≡ size
  pub left_is : drop 13 S ≡ left

abbrev pub TellsRead : List ℕ → Reading → Type 0
TellsRead S x = TellsFile S x.number x.calls x.written x.out

abbrev pub TellsAdd : List ℕ → Adding → Type 0
TellsAdd S x = TellsFile S x.number x.calls x.file x.buffer
