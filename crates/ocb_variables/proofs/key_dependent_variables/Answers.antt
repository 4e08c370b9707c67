-- `ocb_variables::key_dependent_variables` meets its contract: each call gives one field of the state. Assumes nothing.
use mathlib.Core.Path.{ap₂, ◌∙◌}
use mathlib.Core.List.{List}
use Prim.Native.Nat.{ℕ}
use Rattle.standards.specs.Strings.{zeros}
use Rattle.aes.specs.Cipher.{enc}
use Rattle.ocb_variables.proofs.KeyLaws.{state_made}
use Rattle.ocb_variables.proofs.key_dependent_variables.Goals as goal

pub returns : goal.returns
returns c =
    let star = c.encipher-star.ensures ∙ ap₂ (λ (rounds : ℕ) (rk : List ℕ). enc rounds rk (zeros 16)) c.new.ensures.rounds c.new.ensures.keys in
    state_made c.args.round_keys c.args.rounds c.args.m star c.double-dollar.ensures c.l_table-table.ensures
