-- `aes::key::rcon_word` meets its contract: the table's entry is the round's constant.
-- Assumes nothing.
use mathlib.Core.Path.{ap, ◌∙◌}
use mathlib.Core.List.{[], ◌∷◌}
use Prim.Native.Nat.{◌-◌}
use lib.ListN.{get_or}
use native.Mathlib.Omega.{arith}
use Rattle.field.proofs.TableLaws.{rcon_entry}
use Rattle.aes.proofs.key.rcon_word.Goals as goal

pub returns : goal.returns
returns c =
    let round = c.args.round in
    ap (λ x. x ∷ 0 ∷ 0 ∷ 0 ∷ []) (ap (λ t. get_or t (round - 1) 0) c.round_constants-rcon.ensures ∙ rcon_entry (round - 1) (omega arith))
