-- The published promise: what the crates above may use of the cipher. For every block and any bytes of round keys, deciphering undoes
-- enciphering and the reverse, and both give blocks. These are the laws of the cipher on states, carried to blocks.
-- Assumes nothing.
use mathlib.Core.Path.{◌≡◌, refl, sym, ap, subst⁻¹, ◌∙◌}
use mathlib.Core.List.{List}
use Prim.Native.Nat.{ℕ, ◌+◌, ◌*◌, ◌/◌, ◌%◌}
use lib.ListN.{get_or}
use Rattle.standards.specs.Strings.{Bytes, Block}
use Rattle.standards.specs.Fips197.{State, at, from_block, to_block, cipher, inv_cipher, encipher, decipher}
use Rattle.block.proofs.Literals.{places, tabulate_bytes}
use Rattle.aes.specs.Cipher.{enc, dec, EnciphersWith, DeciphersWith}
use Rattle.aes.specs.Cipher.Body.{enc_is, dec_is, enciphers_sbox, deciphers_inv_sbox}
use Rattle.aes_steps.proofs.StateLaws.{IsState, of_state}
use Rattle.aes.proofs.CipherLaws.{cipher_state, inv_cipher_state, inv_cipher_cipher, cipher_inv_cipher}

-- ---- blocks and states

from_state : {b : List ℕ} → Block b → IsState (from_block b)
from_state {b} h = of_state (λ r c. get_or b (r + 4 * c) 0) (λ r c. h.bytes (r + 4 * c))

to_block_lem : {s : State} → IsState s → Block (to_block s)
to_block_lem {s} h = record { size = refl; bytes = tabulate_bytes 16 (λ i. at s (i % 4) (i / 4)) (λ i. h.byte (i % 4) (i / 4)) }

-- g undoes f on states, so it does on blocks
undone : (f g : State → State) → ((s : State) → IsState s → IsState (f s)) → ((s : State) → IsState s → g (f s) ≡ s)
    → (b : List ℕ) → Block b → to_block (g (from_block (to_block (f (from_block b))))) ≡ b
undone f g keeps undoes b h =
    ap (λ s. to_block (g s)) (sym (keeps (from_block b) (from_state h)).shape)
    ∙ ap to_block (undoes (from_block b) (from_state h))
    ∙ sym (places 16 b h.size)

-- ---- the promise

pub enc_block : (nr : ℕ) (w b : List ℕ) → Bytes w → Block b → Block (enc nr w b)
unfolding encipher
enc_block nr w b hw hb = subst⁻¹ Block (enc_is nr w b) (to_block_lem (cipher_state w hw nr (from_state hb)))

pub dec_block : (nr : ℕ) (w b : List ℕ) → Bytes w → Block b → Block (dec nr w b)
unfolding decipher
dec_block nr w b hw hb = subst⁻¹ Block (dec_is nr w b) (to_block_lem (inv_cipher_state w hw nr (from_state hb)))

pub dec_enc : (nr : ℕ) (w b : List ℕ) → Bytes w → Block b → dec nr w (enc nr w b) ≡ b
unfolding encipher decipher
dec_enc nr w b hw hb =
    dec_is nr w (enc nr w b) ∙ ap (decipher nr w) (enc_is nr w b)
    ∙ undone (cipher w nr) (inv_cipher w nr) (λ s h. cipher_state w hw nr h) (λ s h. inv_cipher_cipher w hw nr h) b hb

pub enc_dec : (nr : ℕ) (w b : List ℕ) → Bytes w → Block b → enc nr w (dec nr w b) ≡ b
unfolding encipher decipher
enc_dec nr w b hw hb =
    enc_is nr w (dec nr w b) ∙ ap (encipher nr w) (dec_is nr w b)
    ∙ undone (inv_cipher w nr) (cipher w nr) (λ s h. inv_cipher_state w hw nr h) (λ s h. cipher_inv_cipher w hw nr h) b hb

-- each direction has one table to work with
pub enciphers_single : (s t : List ℕ) → EnciphersWith s → EnciphersWith t → s ≡ t
enciphers_single s t hs ht = enciphers_sbox s hs ∙ sym (enciphers_sbox t ht)

pub deciphers_single : (s t : List ℕ) → DeciphersWith s → DeciphersWith t → s ≡ t
deciphers_single s t hs ht = deciphers_inv_sbox s hs ∙ sym (deciphers_inv_sbox t ht)
