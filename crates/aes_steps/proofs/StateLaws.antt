-- States of sixteen bytes: each step of a round gives such a state and is undone by its inverse.
-- Assumes nothing.
use mathlib.Core.Path.{◌≡◌, refl, sym, ◌∙◌}
use mathlib.Core.List.{List, [], ◌∷◌}
use Prim.Native.Nat.{ℕ, zero, suc, ◌+◌, ◌-◌, ◌*◌, ◌%◌, ◌<◌}
use lib.Dec.{lit<}
use lib.ListN.{get_or}
use Rattle.standards.specs.Strings.{◌⊕◌, Bytes}
use Rattle.standards.specs.Fips197.{State, sbox, inv_sbox, at, column, state, columns, each_byte, row, sub_bytes, inv_sub_bytes, shift_rows, inv_shift_rows, circulant, mix_columns, inv_mix_columns, word, add_column, round_key, add_round_key}
use Rattle.block.proofs.XorLaws.{cancel_right, below}
use Rattle.block.proofs.StringLaws.{bytes_none}
use Rattle.field.proofs.FieldLaws.{product_below}
use Rattle.field.proofs.BoxLaws.{inv_sbox_sbox, sbox_inv_sbox, sbox_below, inv_sbox_below}
use Rattle.aes_steps.proofs.MixLaws.{inv_mix_mix, mix_inv_mix}

-- four columns of four bytes
pub record IsState (s : State) : Type 0 where
  pub shape : s ≡ state (at s)
  pub byte : (r c : ℕ) → at s r c < 256

-- what holds of four elements, and of what stands for one that is not there, holds at each place
pub at_four : {A : Type 0} (P : A → Type 0) {a b c d e : A} → P a → P b → P c → P d → P e → (i : ℕ) → P (get_or (a ∷ b ∷ c ∷ d ∷ []) i e)
at_four P pa pb pc pd pe zero = pa
at_four P pa pb pc pd pe (suc zero) = pb
at_four P pa pb pc pd pe (suc (suc zero)) = pc
at_four P pa pb pc pd pe (suc (suc (suc zero))) = pd
at_four P pa pb pc pd pe (suc (suc (suc (suc i)))) = pe

pub column_bytes : (f : ℕ → ℕ) → ((r : ℕ) → f r < 256) → Bytes (column f)
column_bytes f h = at_four (λ x. x < 256) (h 0) (h 1) (h 2) (h 3) (lit< tt)

of_columns : (a b c d : List ℕ) → Bytes a → Bytes b → Bytes c → Bytes d → (r k : ℕ) → at (a ∷ b ∷ c ∷ d ∷ []) r k < 256
of_columns a b c d ha hb hc hd r k = at_four Bytes ha hb hc hd bytes_none k r

pub of_state : (f : ℕ → ℕ → ℕ) → ((r c : ℕ) → f r c < 256) → IsState (state f)
of_state f h = record {
  shape = refl;
  byte = of_columns _ _ _ _ (column_bytes _ λ r. h r 0) (column_bytes _ λ r. h r 1) (column_bytes _ λ r. h r 2) (column_bytes _ λ r. h r 3);
}

-- ---- SubBytes

module _ (f g : ℕ → ℕ) (same : (b : ℕ) → b < 256 → f b ≡ g b) where
  pub each_byte_same : (a : List ℕ) → Bytes a → each_byte f a ≡ each_byte g a
  each_byte_same a h = λ i. column (λ r. same (get_or a r 0) (h r) i)

  pub each_state_same : {s : State} → IsState s → columns (each_byte f) s ≡ columns (each_byte g) s
  each_state_same {s} h = λ i. state (λ r c. same (at s r c) (h.byte r c) i)

pub unsub : {s : State} → IsState s → inv_sub_bytes (sub_bytes s) ≡ s
unsub h = each_state_same (λ b. inv_sbox (sbox b)) (λ b. b) inv_sbox_sbox h ∙ sym h.shape

pub resub : {s : State} → IsState s → sub_bytes (inv_sub_bytes s) ≡ s
resub h = each_state_same (λ b. sbox (inv_sbox b)) (λ b. b) sbox_inv_sbox h ∙ sym h.shape

pub sub_state : {s : State} → IsState s → IsState (sub_bytes s)
sub_state {s} h = of_state (λ r c. sbox (at s r c)) (λ r c. sbox_below (at s r c) (h.byte r c))

pub inv_sub_state : {s : State} → IsState s → IsState (inv_sub_bytes s)
inv_sub_state {s} h = of_state (λ r c. inv_sbox (at s r c)) (λ r c. inv_sbox_below (at s r c) (h.byte r c))

-- ---- ShiftRows

pub unshift : {s : State} → IsState s → inv_shift_rows (shift_rows s) ≡ s
unshift h = sym h.shape

pub reshift : {s : State} → IsState s → shift_rows (inv_shift_rows s) ≡ s
reshift h = sym h.shape

pub shift_state : {s : State} → IsState s → IsState (shift_rows s)
shift_state {s} h = of_state (λ r c. at s r ((c + r) % 4)) (λ r c. h.byte r ((c + r) % 4))

pub inv_shift_state : {s : State} → IsState s → IsState (inv_shift_rows s)
inv_shift_state {s} h = of_state (λ r c. at s r ((c + 4 - r) % 4)) (λ r c. h.byte r ((c + 4 - r) % 4))

-- ---- MixColumns

pub unmix : {s : State} → IsState s → inv_mix_columns (mix_columns s) ≡ s
unmix {s} h =
    (λ i. state (λ r c. inv_mix_mix (at s r c) (at s ((r + 1) % 4) c) (at s ((r + 2) % 4) c) (at s ((r + 3) % 4) c) i)) ∙ sym h.shape

pub remix : {s : State} → IsState s → mix_columns (inv_mix_columns s) ≡ s
remix {s} h =
    (λ i. state (λ r c. mix_inv_mix (at s r c) (at s ((r + 1) % 4) c) (at s ((r + 2) % 4) c) (at s ((r + 3) % 4) c) i)) ∙ sym h.shape

row_below : (k₀ k₁ k₂ k₃ a b c d : ℕ) → a < 256 → b < 256 → c < 256 → d < 256 → row k₀ k₁ k₂ k₃ a b c d < 256
unfolding row
row_below k₀ k₁ k₂ k₃ a b c d ha hb hc hd =
    below 8 _ _ (below 8 _ _ (below 8 _ _ (product_below k₀ a ha) (product_below k₁ b hb)) (product_below k₂ c hc)) (product_below k₃ d hd)

-- for both matrices
circulant_state : (k₀ k₁ k₂ k₃ : ℕ) {s : State} → IsState s → IsState (columns (circulant k₀ k₁ k₂ k₃) s)
circulant_state k₀ k₁ k₂ k₃ {s} h =
    of_state (λ r c. row k₀ k₁ k₂ k₃ (at s r c) (at s ((r + 1) % 4) c) (at s ((r + 2) % 4) c) (at s ((r + 3) % 4) c))
    (λ r c. row_below k₀ k₁ k₂ k₃ _ _ _ _ (h.byte r c) (h.byte ((r + 1) % 4) c) (h.byte ((r + 2) % 4) c) (h.byte ((r + 3) % 4) c))

pub mix_state : {s : State} → IsState s → IsState (mix_columns s)
mix_state = circulant_state 0x02 0x03 0x01 0x01

pub inv_mix_state : {s : State} → IsState s → IsState (inv_mix_columns s)
inv_mix_state = circulant_state 0x0e 0x0b 0x0d 0x09

-- ---- AddRoundKey

pub unadd : (w : List ℕ) (j : ℕ) {s : State} → IsState s → add_round_key w j (add_round_key w j s) ≡ s
unadd w j {s} h = (λ i. state (λ r c. cancel_right (at s r c) (at (round_key w j) r c) i)) ∙ sym h.shape

pub add_bytes : (a k : List ℕ) → Bytes a → Bytes k → Bytes (add_column a k)
add_bytes a k ha hk = column_bytes _ (λ r. below 8 (get_or a r 0) (get_or k r 0) (ha r) (hk r))

pub word_bytes : (w : List ℕ) (j : ℕ) → Bytes w → Bytes (word w j)
word_bytes w j h = at_four (λ x. x < 256) (h (4 * j)) (h (4 * j + 1)) (h (4 * j + 2)) (h (4 * j + 3)) (lit< tt)

pub add_state_lem : (w : List ℕ) → Bytes w → (j : ℕ) {s : State} → IsState s → IsState (add_round_key w j s)
add_state_lem w hw j {s} h =
    of_state (λ r c. at s r c ⊕ at (round_key w j) r c)
    (λ r c. below 8 (at s r c) (at (round_key w j) r c) (h.byte r c)
    (at_four Bytes (word_bytes w (4 * j) hw) (word_bytes w (4 * j + 1) hw) (word_bytes w (4 * j + 2) hw) (word_bytes w (4 * j + 3) hw) bytes_none c r))
