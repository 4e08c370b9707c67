-- `File::word` meets its contract: a row that is counted is there. Assumes nothing.
use Rattle.spill_form.proofs.FileLaws.{has_row}
use Rattle.spill_form.proofs.File.word.Goals as goal

pub field-requires : goal.field-requires
field-requires c = let s = c.args.self in (has_row s.form s.bytes.now c.args.i s.small s.table c.requires.0, c.requires.1)
