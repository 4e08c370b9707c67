-- What a turn of the two ciphers' loops does, and what is left after the last turn. Each call's result is a variable here.
-- Assumes nothing.
use mathlib.Core.Path.{◌≡◌, refl, sym, ap, ap₂, ◌∙◌}
use mathlib.Core.List.{List}
use Prim.Native.Nat.{ℕ, zero, suc, ◌+◌, ◌-◌, ◌<◌, ◌≤◌}
use native.Mathlib.Nat.{not-suc-le-zero}
use native.Mathlib.Omega.{arith}
use native.Mathlib.Numerals.{sub-one}
use Rattle.standards.specs.Fips197.{State, sub_bytes, inv_sub_bytes, shift_rows, inv_shift_rows, mix_columns, inv_mix_columns, add_round_key, rounds, cipher, inv_rounds, inv_cipher}

pub turn : (w : List ℕ) (i : ℕ) (s₀ s a d : State) → 1 ≤ i → s ≡ rounds w (i - 1) s₀ → a ≡ mix_columns (shift_rows (sub_bytes s)) → d ≡ add_round_key w i a
    → d ≡ rounds w (i + 1 - 1) s₀
unfolding rounds
turn w zero s₀ s a d h e p q = absurd (not-suc-le-zero h)
turn w (suc i) s₀ s a d h e p q =
    let before : suc i - 1 ≡ i = omega arith in
    let after : suc i ≡ suc i + 1 - 1 = omega arith in
    q ∙ ap (add_round_key w (suc i)) (p ∙ ap (λ t. mix_columns (shift_rows (sub_bytes t))) (e ∙ ap (λ (k : ℕ). rounds w k s₀) before))
    ∙ ap (λ (k : ℕ). rounds w k s₀) after

pub last : (w : List ℕ) (nr i : ℕ) (b s₀ s a d : State) → i ≡ nr - 1 → s₀ ≡ add_round_key w 0 b → s ≡ rounds w i s₀
    → a ≡ shift_rows (sub_bytes s) → d ≡ add_round_key w nr a → d ≡ cipher w nr b
unfolding cipher
last w nr i b s₀ s a d n z e p q = q ∙ ap (add_round_key w nr) (p ∙ ap (λ t. shift_rows (sub_bytes t)) (e ∙ ap₂ (rounds w) n z))

pub inv_turn : (w : List ℕ) (i : ℕ) (s a k d : State) → 0 < i → a ≡ inv_sub_bytes (inv_shift_rows s) → k ≡ add_round_key w i a → d ≡ inv_mix_columns k
    → inv_rounds w (i - 1) d ≡ inv_rounds w i s
unfolding inv_rounds
inv_turn w zero s a k d h p q r = absurd (not-suc-le-zero h)
inv_turn w (suc i) s a k d h p q r = rw sub-one (ap (inv_rounds w i) (r ∙ ap inv_mix_columns (q ∙ ap (add_round_key w (suc i)) p)))

none : (w : List ℕ) (s : State) → s ≡ inv_rounds w 0 s
unfolding inv_rounds
none w s = refl

pub inv_last : (w : List ℕ) (nr i : ℕ) (b s₀ s a d : State) → i ≡ 0 → s₀ ≡ add_round_key w nr b → inv_rounds w i s ≡ inv_rounds w (nr - 1) s₀
    → a ≡ inv_sub_bytes (inv_shift_rows s) → d ≡ add_round_key w 0 a → d ≡ inv_cipher w nr b
unfolding inv_cipher
inv_last w nr i b s₀ s a d n z e p q =
    q ∙ ap (add_round_key w 0)
    (p ∙ ap (λ t. inv_sub_bytes (inv_shift_rows t)) (none w s ∙ ap (λ (k : ℕ). inv_rounds w k s) (sym n) ∙ e ∙ ap (inv_rounds w (nr - 1)) z))
