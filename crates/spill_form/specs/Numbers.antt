-- The number of each refusal, of a file, a row or an addition, and of an outcome, which is 0 where nothing is refused.
use Rattle.std.specs.Prelude.{ℕ, Result, Ok, Err}
use Rattle.ocb_numbers.specs.Numbers as sizes
use Rattle.spill_form.specs.declared.Refusal.{Refusal}
use Rattle.spill_form.specs.declared.Refusal.TheVariants.{OutputLength, Table, Flawed, Behind, OtherTenant, NoRow, NonceUsed, Full, NoTenant, Sizes}

abbrev pub number_of : Refusal → ℕ
number_of OutputLength = 9
number_of Table = 10
number_of Flawed = 11
number_of Behind = 12
number_of OtherTenant = 13
number_of NoRow = 14
number_of NonceUsed = 15
number_of Full = 16
number_of NoTenant = 17
number_of (Sizes r) = sizes.number_of r

abbrev pub outcome_number : {A : Type 0} → Result A Refusal → ℕ
outcome_number (Ok _) = 0
outcome_number (Err r) = number_of r
