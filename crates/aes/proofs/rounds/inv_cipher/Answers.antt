-- `aes::rounds::inv_cipher` meets its contract: what the rounds that are left make of the state is what they all make of the first.
-- Assumes nothing.
use mathlib.Core.Path.{refl, ◌∙◌}
use Prim.Native.Nat.{◌-◌}
use native.Mathlib.Omega.{arith}
use Rattle.aes.proofs.Turns.{inv_turn, inv_last}
use Rattle.aes.proofs.rounds.inv_cipher.Goals as goal

pub loop-i-init : goal.loop-i-init
loop-i-init c = refl

pub loop-i-preserved : goal.loop-i-preserved
loop-i-preserved c =
    let l = c.loop-i in
    inv_turn _ (l.i - 1) _ _ _ _ (omega arith) c.inv_shift_and_sub.ensures c.add_round_key.ensures c.inv_mix_columns-s.ensures ∙ l.invariant

pub returns : goal.returns
returns c =
    let l = c.loop-i in
    inv_last _ c.args.rounds (l.i - 1) _ _ _ _ _ (omega arith) c.add_round_key-s.ensures l.invariant
    c.inv_shift_and_sub-2.ensures c.add_round_key-2.ensures
