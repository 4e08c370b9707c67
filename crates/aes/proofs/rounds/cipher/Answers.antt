-- `aes::rounds::cipher` meets its contract: before round i the state has been through rounds 1 to i - 1.
-- Assumes nothing.
use mathlib.Core.Path.{refl, ap, ◌∙◌}
use Prim.Native.Nat.{◌-◌}
use native.Mathlib.Omega.{arith}
use Rattle.standards.specs.Fips197.{rounds, mix_columns}
use Rattle.aes.proofs.Turns.{turn, last}
use Rattle.aes.proofs.rounds.cipher.Goals as goal

pub loop-i-init : goal.loop-i-init
unfolding rounds
loop-i-init c = refl

pub loop-i-preserved : goal.loop-i-preserved
loop-i-preserved c =
    let l = c.loop-i in
    turn _ l.i _ _ _ _ l.auto.i l.invariant (c.mix_columns.ensures ∙ ap mix_columns c.sub_and_shift.ensures) c.add_round_key-s-in-loop-i.ensures

pub returns : goal.returns
returns c =
    let l = c.loop-i in
    last _ c.args.rounds (l.i - 1) _ _ _ _ _ (omega arith) c.add_round_key-s.ensures l.invariant
    c.sub_and_shift-2.ensures c.add_round_key.ensures
