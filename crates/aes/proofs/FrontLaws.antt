-- The cipher of nr rounds and its inverse look at the first 16 (nr + 1) bytes of their round keys only: whatever stands behind them makes no
-- difference. Each round takes the sixteen bytes of its key. Assumes nothing.
use mathlib.Core.Path.{◌≡◌, refl, sym, ap, ◌∙◌}
use mathlib.Core.List.{List, [], ◌∷◌}
use Prim.Native.Nat.{ℕ, zero, suc, ◌+◌, ◌-◌, ◌*◌, ◌<◌}
use native.Mathlib.Omega.{arith}
use lib.ListN.{take}
use Rattle.standards.specs.Fips197.{State, to_block, from_block, sub_bytes, inv_sub_bytes, shift_rows, inv_shift_rows, mix_columns, inv_mix_columns, add_state, add_round_key}
use Rattle.standards.specs.Fips197.{rounds, cipher, inv_rounds, inv_cipher, encipher, decipher}
use Rattle.aes.specs.Cipher.{enc, dec}
use Rattle.aes.specs.Cipher.Body.{enc_is, dec_is}
use Rattle.aes.proofs.KeyLaws.{word_take}

-- n bytes of w
module _ (w : List ℕ) (n : ℕ) where
  add_front : (i : ℕ) (s : State) → 16 * i + 15 < n → add_round_key (take n w) i s ≡ add_round_key w i s
  add_front i s h = λ x.
      add_state s
      (word_take w n (4 * i) (omega arith) x ∷ word_take w n (4 * i + 1) (omega arith) x
      ∷ word_take w n (4 * i + 2) (omega arith) x ∷ word_take w n (4 * i + 3) (omega arith) x ∷ [])

  rounds_front : (i : ℕ) (s : State) → 16 * i + 15 < n → rounds (take n w) i s ≡ rounds w i s
  unfolding rounds
  rounds_front zero s h = refl
  rounds_front (suc i) s h =
      add_front (suc i) (mix_columns (shift_rows (sub_bytes (rounds (take n w) i s)))) h
      ∙ ap (λ t. add_round_key w (suc i) (mix_columns (shift_rows (sub_bytes t)))) (rounds_front i s (omega arith))

  inv_rounds_front : (i : ℕ) (s : State) → 16 * i + 15 < n → inv_rounds (take n w) i s ≡ inv_rounds w i s
  unfolding inv_rounds
  inv_rounds_front zero s h = refl
  inv_rounds_front (suc i) s h =
      let t : State = inv_sub_bytes (inv_shift_rows s) in
      ap (λ u. inv_rounds (take n w) i (inv_mix_columns u)) (add_front (suc i) t h) ∙ inv_rounds_front i (inv_mix_columns (add_round_key w (suc i) t)) (omega arith)

-- the bytes that nr rounds look at
abbrev pub front : ℕ → List ℕ → List ℕ
front nr w = take (16 * (nr + 1)) w

cipher_front : (nr : ℕ) (w : List ℕ) (s : State) → cipher (front nr w) nr s ≡ cipher w nr s
unfolding cipher
cipher_front nr w s =
    let n : ℕ = 16 * (nr + 1) in
    let first : State = add_round_key (front nr w) 0 s in
    add_front w n nr (shift_rows (sub_bytes (rounds (front nr w) (nr - 1) first))) (omega arith)
    ∙ ap (λ t. add_round_key w nr (shift_rows (sub_bytes t)))
    (rounds_front w n (nr - 1) first (omega arith) ∙ ap (rounds w (nr - 1)) (add_front w n 0 s (omega arith)))

inv_cipher_front : (nr : ℕ) (w : List ℕ) (s : State) → inv_cipher (front nr w) nr s ≡ inv_cipher w nr s
unfolding inv_cipher
inv_cipher_front nr w s =
    let n : ℕ = 16 * (nr + 1) in
    let last : State = add_round_key (front nr w) nr s in
    add_front w n 0 (inv_sub_bytes (inv_shift_rows (inv_rounds (front nr w) (nr - 1) last))) (omega arith)
    ∙ ap (λ t. add_round_key w 0 (inv_sub_bytes (inv_shift_rows t)))
    (inv_rounds_front w n (nr - 1) last (omega arith) ∙ ap (inv_rounds w (nr - 1)) (add_front w n nr s (omega arith)))

-- ---- on blocks

enc_front : (nr : ℕ) (w b : List ℕ) → enc nr (front nr w) b ≡ enc nr w b
unfolding encipher
enc_front nr w b = enc_is nr (front nr w) b ∙ ap to_block (cipher_front nr w (from_block b)) ∙ sym (enc_is nr w b)

dec_front : (nr : ℕ) (w b : List ℕ) → dec nr (front nr w) b ≡ dec nr w b
unfolding decipher
dec_front nr w b = dec_is nr (front nr w) b ∙ ap to_block (inv_cipher_front nr w (from_block b)) ∙ sym (dec_is nr w b)

-- round keys that begin alike encipher and decipher alike
module _ (nr : ℕ) (w v : List ℕ) (alike : front nr w ≡ front nr v) (b : List ℕ) where
  pub enc_alike : enc nr w b ≡ enc nr v b
  enc_alike = sym (enc_front nr w b) ∙ ap (λ (x : List ℕ). enc nr x b) alike ∙ enc_front nr v b

  pub dec_alike : dec nr w b ≡ dec nr v b
  dec_alike = sym (dec_front nr w b) ∙ ap (λ (x : List ℕ). dec nr x b) alike ∙ dec_front nr v b
