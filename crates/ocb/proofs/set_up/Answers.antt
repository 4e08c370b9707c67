-- `set_up` meets its contract: a refused size gives the list's number and zeros; else the key is expanded and made into a state.
-- Assumes nothing.
use mathlib.Core.Path.{◌≡◌, refl, sym, ap, subst⁻¹, ◌∙◌}
use mathlib.Core.List.{List}
use Prim.Native.Nat.{ℕ, zero, suc}
use lib.ListN.{length}
use Rattle.sizes.specs.Sizes.{rounds_for, Rounds}
use Rattle.sizes.proofs.KeyLaws.{rounds_for_lem}
use Rattle.aes.specs.Schedule.{round_keys_of}
use Rattle.ocb_numbers.specs.declared.Refusal.{Refusal}
use Rattle.ocb_numbers.specs.Numbers.{number_of, set_up_number}
use Rattle.ocb_numbers.proofs.Refusals.{numbered_from_1, set_up_sizes}
use Rattle.ocb_variables.specs.declared.State.{State}
use Rattle.ocb_variables.specs.State.{state_of, state_for}
use Rattle.ocb.specs.declared.SetUp.{SetUp}
use Rattle.ocb.specs.Answers.{zero_state, made_unless, set_up}
use Rattle.ocb.proofs.set_up.Goals as goal

refused : {n : ℕ} {z : State} (key : List ℕ) (m : ℕ) (e : Refusal) → number_of e ≡ set_up_number (length key) m → n ≡ number_of e → z ≡ zero_state
    → ◌≡◌ {A = SetUp} (record { number = n; state = z }) (set_up key m)
unfolding set_up
refused {n} {z} key m e by en ez =
    let u : ◌≡◌ {A = SetUp} (record { number = n; state = z }) (record { number = number_of e; state = zero_state }) = cc in
    u ∙ given (number_of e) (numbered_from_1 e) ∙ ap (λ (k : ℕ). made_unless k made) by
  where
    made : State
    made = state_for key m

    given : (n : ℕ) → (n ≡ 0 → ⊥) → ◌≡◌ {A = SetUp} (record { number = n; state = zero_state }) (made_unless n made)
    given zero h = absurd (h refl)
    given (suc n) h = refl

made : {nr : ℕ} {rk : List ℕ} {s : State} (key : List ℕ) (m : ℕ) → 0 ≡ set_up_number (length key) m → nr ≡ rounds_for (length key)
    → rk ≡ round_keys_of key → s ≡ state_of rk nr m → ◌≡◌ {A = SetUp} (record { number = 0; state = s }) (set_up key m)
unfolding set_up
made {s = s} key m none en er es =
    let u : ◌≡◌ {A = SetUp} (record { number = 0; state = s }) (record { number = 0; state = state_for key m }) = cc in
    u ∙ ap (λ (k : ℕ). made_unless k (state_for key m)) none

pub returns-in-Err : goal.returns-in-Err
returns-in-Err c =
    let a = c.args in
    refused a.key.now a.m c.in-Err.refused c.in-Err.ensures c.into.ensures c.zero_state.ensures

pub expand_key-requires : goal.expand_key-requires
expand_key-requires c = (set_up_sizes (length c.args.key.now) c.args.m (sym c.in_default.ensures)).0

pub returns : goal.returns
returns c =
    let a = c.args in
    made a.key.now a.m c.in_default.ensures c.rounds_for-rounds.ensures c.expand_key.ensures c.key_dependent_variables-state.ensures

pub key_dependent_variables-state-requires : goal.key_dependent_variables-state-requires
key_dependent_variables-state-requires c =
    let a = c.args in
    let admitted = set_up_sizes (length a.key.now) a.m (sym c.in_default.ensures) in
    (subst⁻¹ Rounds c.rounds_for-rounds.ensures (rounds_for_lem admitted.0), admitted.1.to)
