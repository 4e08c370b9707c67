-- From what the inner functions leave to the outcome that the entry points promise, over plain values: the first offset in bytes is the RFC's in bits, and
-- ciphertext and tag apart are OCB-ENCRYPT's whole. Assumes nothing.
use mathlib.Core.Path.{◌≡◌, refl, sym, ap, ap₂, subst, subst⁻¹, ◌∙◌}
use mathlib.Core.Bool.{Bool, true, false}
use mathlib.Core.List.{List, ◌++◌}
use Prim.Native.Nat.{ℕ, zero, suc}
use lib.ListN.{length, take, drop}
use lib.Seq.{take_at, drop_at}
use Rattle.sizes.specs.Sizes.{Rounds}
use Rattle.standards.specs.Strings.{zeros, Bytes, Block}
use Rattle.standards.specs.Rfc7253.{Key, Plaintext, Offset-0, seal_block, open_block, text, end_offset, seal_sum, open_sum, Tag, same, valid_if, OCB-ENCRYPT, OCB-DECRYPT}
use Rattle.standards.specs.InBytes.{initial_offset}
use Rattle.standards.specs.Rfc7253 as rfc
use Rattle.ocb_laws.proofs.Readings.{offset_same}
use Rattle.aes.proofs.Promise.{enc_block}
use Rattle.ocb_laws.proofs.RoundTrip.{decrypt_split}
use Rattle.ocb_laws.proofs.Calls.{encrypt_calls, decrypt_calls}
use Rattle.ocb_variables.specs.declared.State.{State}
use Rattle.ocb_variables.specs.Held.{held}
use Rattle.ocb.specs.declared.Answer.{Answer}
use Rattle.ocb_numbers.specs.declared.Refusal.{Refusal}
use Rattle.ocb_numbers.specs.Numbers.{number_of, refusal, count, InRange}
use Rattle.ocb.specs.Answers.{Outcome, untouched, seal_refused, open_refused, unless, encrypted, verdict, decrypted, sealed, opened, Leaves}
use Rattle.ocb.specs.Inner.{Encrypted, Decrypted}
use Rattle.ocb_numbers.proofs.Refusals.{numbered_from_1, in_range}

-- ---- the work done, for sizes in range and a cipher that gives blocks

module _ (K : Key) (blocks : (b : List ℕ) → Block b → Block (K.ENCIPHER b)) {m : ℕ} (N A S T : List ℕ)
    (sizes : InRange m (length N) (length A) (length S) (length T)) (N-bytes : Bytes N) where
  first : initial_offset K.ENCIPHER (length T) N ≡ Offset-0 K (length T) N
  first =
      offset_same (length T) N sizes.nonce_size.from sizes.nonce_size.to sizes.tag_size.from sizes.tag_size.to N-bytes K blocks

  seal_leaves : {C T' : List ℕ} (r : Answer) → Encrypted K N A S T C T' → length C ≡ length S
      → r.number ≡ 0 → r.calls ≡ count (length A) (length S) → Leaves (encrypted K N A S T) r C T'
  unfolding OCB-ENCRYPT
  seal_leaves {C} {T'} r E long en ec =
      let whole : C ++ T' ≡ OCB-ENCRYPT K (length T) N A S =
      ap₂ (λ (a b : List ℕ). a ++ b) E.text_is E.tag_is
      ∙ ap (λ (O : List ℕ). text seal_block K O S ++ take (length T) (Tag K (seal_sum K O S) (end_offset K O S) A)) first in
      record {
        number = en;
        calls = ec ∙ sym (encrypt_calls K (length T) N A S);
        text_left = sym (ap (take (length S)) (sym whole) ∙ take_at C T' (length S) long);
        tag_left = sym (ap (drop (length S)) (sym whole) ∙ drop_at C T' (length S) long);
      }

  told : {P : List ℕ} {valid : Bool} → Decrypted K N A S T P valid → OCB-DECRYPT K (length T) N A (S ++ T) ≡ valid_if valid P
  unfolding rfc.decrypted
  told {P} {valid} D =
      decrypt_split K N A S T (length T) refl
      ∙ ap (λ (O : List ℕ). valid_if (same (take (length T) (Tag K (open_sum K O S) (end_offset K O S) A)) T) (text open_block K O S)) (sym first)
      ∙ ap₂ valid_if (sym D.valid-is) (sym D.text_is)

  open_leaves : {P S' : List ℕ} {valid : Bool} (r : Answer) → Decrypted K N A S T P valid
      → r.calls ≡ count (length A) (length S) → Leaves (verdict (valid_if valid P) r.calls S T) r S' T → Leaves (decrypted K N A S T) r S' T
  open_leaves {P} {S'} {valid} r D ec L =
      let e : verdict (valid_if valid P) r.calls S T ≡ decrypted K N A S T =
      ap₂ (λ (p : Plaintext) (n : ℕ). verdict p n S T) (sym (told D)) (ec ∙ sym (decrypt_calls K (length T) N A S T refl)) in
      subst (λ (o : Outcome). Leaves o r S' T) e L

-- ---- the entry points: n is the number that the sizes ask for

refused : (n : ℕ) (o : Outcome) (S T : List ℕ) → (n ≡ 0 → ⊥) → Leaves (unless n (untouched S T) o) (record { number = n; calls = 0 }) S T
refused zero o S T h = absurd (h refl)
refused (suc n) o S T h = record { number = refl; calls = refl; text_left = refl; tag_left = refl }

-- what is left by number n, and what by none
pub by_number : {n k : ℕ} (o : Outcome) (S T : List ℕ) → k ≡ n → (k ≡ 0 → ⊥) → Leaves (unless n (untouched S T) o) (record { number = k; calls = 0 }) S T
by_number {n} {k} o S T e h = subst (λ (i : ℕ). Leaves (unless i (untouched S T) o) (record { number = k; calls = 0 }) S T) e (refused k o S T h)

pub by_none : {n k : ℕ} {o : Outcome} {r : Answer} {S' T' : List ℕ} (refused : ℕ → Outcome) → k ≡ n → k ≡ 0 → Leaves o r S' T' → Leaves (unless n refused o) r S' T'
by_none {o = o} {r} {S'} {T'} refused e z L = subst (λ (i : ℕ). Leaves (unless i refused o) r S' T') (sym z ∙ e) L

module _ (s : State) (N A S T : List ℕ) where
  abbrev asked : ℕ
  asked = refusal s.values.m s.values.rounds (length N) (length A) (length S) (length T)

  pub seal_refused_lem : (e : Refusal) → number_of e ≡ asked → {r : Answer} → r ≡ record { number = number_of e; calls = 0 } → Leaves (sealed s N A S T) r S T
  unfolding sealed
  seal_refused_lem e by er =
      subst⁻¹ (λ (r : Answer). Leaves (sealed s N A S T) r S T) er (by_number (encrypted (held s) N A S T) S T by (numbered_from_1 e))

  pub open_refused_lem : (e : Refusal) → number_of e ≡ asked → {r : Answer} → r ≡ record { number = number_of e; calls = 0 } → Leaves (opened s N A S T) r S T
  unfolding opened
  open_refused_lem e by er =
      subst⁻¹ (λ (r : Answer). Leaves (opened s N A S T) r S T) er (by_number (decrypted (held s) N A S T) S T by (numbered_from_1 e))

  module _ (none : 0 ≡ asked) where
    pub sizes : Rounds s.values.rounds × InRange s.values.m (length N) (length A) (length S) (length T)
    sizes = in_range s.values.m s.values.rounds (length N) (length A) (length S) (length T) (sym none)

    module _ (key_bytes : Bytes s.round_keys) (N-bytes : Bytes N) {calls : ℕ} (count : calls ≡ count (length A) (length S)) where
      pub seal_done : {C T' : List ℕ} → Encrypted (held s) N A S T C T' → length C ≡ length S → Leaves (sealed s N A S T) (record { number = 0; calls = calls }) C T'
      unfolding sealed
      seal_done E long =
          by_none (seal_refused S T) none refl
          (seal_leaves (held s) (λ b. enc_block s.values.rounds s.round_keys b key_bytes) N A S T sizes.1 N-bytes (record { number = 0; calls = calls }) E long refl count)

      opened_by : {P S' : List ℕ} {valid : Bool} {n : ℕ} → Decrypted (held s) N A S T P valid
          → Leaves (verdict (valid_if valid P) calls S T) (record { number = n; calls = calls }) S' T → Leaves (opened s N A S T) (record { number = n; calls = calls }) S' T
      unfolding opened
      opened_by {n = n} D L =
          by_none (open_refused S T) none refl
          (open_leaves (held s) (λ b. enc_block s.values.rounds s.round_keys b key_bytes) N A S T sizes.1 N-bytes (record { number = n; calls = calls }) D count L)

      pub open_done : {P : List ℕ} {valid : Bool} → Decrypted (held s) N A S T P valid → valid ≡ true → Leaves (opened s N A S T) (record { number = 0; calls = calls }) P T
      open_done {P} D e =
          opened_by D
          (subst (λ (b : Bool). Leaves (verdict (valid_if b P) calls S T) (record { number = 0; calls = calls }) P T) (sym e)
          (record { number = refl; calls = refl; text_left = refl; tag_left = refl }))

      -- what was deciphered is cleared, all of it
      pub open_cleared : {P S' : List ℕ} {valid : Bool} → Decrypted (held s) N A S T P valid → valid ≡ false → length P ≡ length S → S' ≡ zeros (length P)
          → {n : ℕ} → n ≡ 7 → Leaves (opened s N A S T) (record { number = n; calls = calls }) S' T
      open_cleared {P} {S'} D e long z {n} en =
          opened_by D
          (subst (λ (b : Bool). Leaves (verdict (valid_if b P) calls S T) (record { number = n; calls = calls }) S' T) (sym e)
          (record { number = en; calls = refl; text_left = z ∙ ap zeros long; tag_left = refl }))
