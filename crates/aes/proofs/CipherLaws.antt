-- The inverse cipher undoes the cipher and the reverse, for any number of rounds and any round keys: round after round, from the middle out.
-- Assumes nothing.
use mathlib.Core.Path.{◌≡◌, ap, ◌∙◌}
use mathlib.Core.List.{List}
use Prim.Native.Nat.{ℕ, zero, suc, ◌-◌}
use Rattle.standards.specs.Strings.{Bytes}
use Rattle.standards.specs.Fips197.{State, sub_bytes, inv_sub_bytes, shift_rows, inv_shift_rows, mix_columns, inv_mix_columns, add_round_key, rounds, cipher, inv_rounds, inv_cipher}
use Rattle.aes_steps.proofs.StateLaws.{IsState, unsub, resub, sub_state, inv_sub_state, unshift, reshift, shift_state, inv_shift_state, unmix, remix, mix_state, inv_mix_state, unadd, add_state_lem}

-- the two steps that take no key, which each round has, and their inverses
abbrev there : State → State
there s = shift_rows (sub_bytes s)

abbrev back : State → State
back s = inv_sub_bytes (inv_shift_rows s)

there_state : {s : State} → IsState s → IsState (there s)
there_state h = shift_state (sub_state h)

back_state : {s : State} → IsState s → IsState (back s)
back_state h = inv_sub_state (inv_shift_state h)

back_there : {s : State} → IsState s → back (there s) ≡ s
back_there h = ap inv_sub_bytes (unshift (sub_state h)) ∙ unsub h

there_back : {s : State} → IsState s → there (back s) ≡ s
there_back h = ap shift_rows (resub (inv_shift_state h)) ∙ reshift h

module _ (w : List ℕ) (hw : Bytes w) where
  rounds_state : (i : ℕ) {s : State} → IsState s → IsState (rounds w i s)
  unfolding rounds
  rounds_state zero h = h
  rounds_state (suc i) h = add_state_lem w hw (suc i) (mix_state (there_state (rounds_state i h)))

  inv_rounds_state : (i : ℕ) {s : State} → IsState s → IsState (inv_rounds w i s)
  unfolding inv_rounds
  inv_rounds_state zero h = h
  inv_rounds_state (suc i) h = inv_rounds_state i (inv_mix_state (add_state_lem w hw (suc i) (back_state h)))

  unround : (i : ℕ) {s : State} → IsState s → back (inv_rounds w i (there (rounds w i s))) ≡ s
  unfolding rounds inv_rounds
  unround zero h = back_there h
  unround (suc i) {s} h =
      let m : IsState (there (rounds w i s)) = there_state (rounds_state i h) in
      ap (λ t. back (inv_rounds w i (inv_mix_columns (add_round_key w (suc i) t)))) (back_there (rounds_state (suc i) h))
      ∙ ap (λ t. back (inv_rounds w i (inv_mix_columns t))) (unadd w (suc i) (mix_state m))
      ∙ ap (λ t. back (inv_rounds w i t)) (unmix m)
      ∙ unround i h

  reround : (i : ℕ) {s : State} → IsState s → there (rounds w i (back (inv_rounds w i s))) ≡ s
  unfolding rounds inv_rounds
  reround zero h = there_back h
  reround (suc i) {s} h =
      let m : IsState (add_round_key w (suc i) (back s)) = add_state_lem w hw (suc i) (back_state h) in
      ap (λ t. there (add_round_key w (suc i) (mix_columns t))) (reround i (inv_mix_state m))
      ∙ ap (λ t. there (add_round_key w (suc i) t)) (remix m)
      ∙ ap there (unadd w (suc i) (back_state h))
      ∙ there_back h

  pub cipher_state : (nr : ℕ) {s : State} → IsState s → IsState (cipher w nr s)
  unfolding cipher
  cipher_state nr h = add_state_lem w hw nr (there_state (rounds_state (nr - 1) (add_state_lem w hw 0 h)))

  pub inv_cipher_state : (nr : ℕ) {s : State} → IsState s → IsState (inv_cipher w nr s)
  unfolding inv_cipher
  inv_cipher_state nr h = add_state_lem w hw 0 (back_state (inv_rounds_state (nr - 1) (add_state_lem w hw nr h)))

  pub inv_cipher_cipher : (nr : ℕ) {s : State} → IsState s → inv_cipher w nr (cipher w nr s) ≡ s
  unfolding cipher inv_cipher
  inv_cipher_cipher nr {s} h =
      let k : IsState (add_round_key w 0 s) = add_state_lem w hw 0 h in
      ap (λ t. add_round_key w 0 (back (inv_rounds w (nr - 1) t))) (unadd w nr (there_state (rounds_state (nr - 1) k)))
      ∙ ap (add_round_key w 0) (unround (nr - 1) k)
      ∙ unadd w 0 h

  pub cipher_inv_cipher : (nr : ℕ) {s : State} → IsState s → cipher w nr (inv_cipher w nr s) ≡ s
  unfolding cipher inv_cipher
  cipher_inv_cipher nr {s} h =
      let k : IsState (add_round_key w nr s) = add_state_lem w hw nr h in
      ap (λ t. add_round_key w nr (there (rounds w (nr - 1) t))) (unadd w 0 (back_state (inv_rounds_state (nr - 1) k)))
      ∙ ap (add_round_key w nr) (reround (nr - 1) k)
      ∙ unadd w nr h
