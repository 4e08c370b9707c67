-- `field::double` meets its contract, by a computed test of each byte.
-- Assumes nothing.
use borrow.Author.Rules.{rules}
use Rattle.field.proofs.FieldLaws.{double_byte}
use Rattle.field.proofs.double.Goals as goal

pub returns : goal.returns
returns c = double_byte c.args.b (search rules)
