-- `spill_form::row_at` meets its contract. Assumes nothing.
use mathlib.Core.Path.{refl}
use Rattle.spill_form.specs.File.{row_at}
use Rattle.spill_form.proofs.row_at.Goals as goal

pub returns : goal.returns
unfolding row_at
returns c = refl
