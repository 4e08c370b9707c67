-- `next_offset` meets its contract: the L value of a block that is in the table lies in it. Assumes nothing.
use mathlib.Core.Path.{◌≡◌}
use native.Mathlib.Omega.{arith}
use borrow.Author.Rules.{rules}
use lib.ListN.{length}
use Rattle.sizes.specs.Sizes.{table_bytes}
use Rattle.standards.specs.Rfc7253.{block_at}
use Rattle.ocb_laws.proofs.TableLaws.{place-within}
use Rattle.ocb_steps.proofs.blocks.next_offset.Goals as goal

pub load-requires : goal.load-requires
load-requires c =
    let long : length c.args.table.now ≡ table_bytes = search rules in
    omega (arith, long, place-within c.requires, c.ntz.ensures)

pub returns : goal.returns
unfolding block_at
returns c = cc

pub overflow_mul-ntz : goal.overflow_mul-ntz
overflow_mul-ntz c = omega (arith, place-within c.requires, c.ntz.ensures)
