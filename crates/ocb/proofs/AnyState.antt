-- Seal and open under any state of bytes, whoever made it: what they leave is as long as what was lent, and what is done takes the calls that are counted.
-- Assumes nothing.
use mathlib.Core.Path.{◌≡◌, refl, ap, ◌∙◌}
use mathlib.Core.List.{List, ◌++◌}
use Prim.Native.Nat.{ℕ, zero, suc, ◌+◌}
use native.Mathlib.Omega.{arith}
use lib.ListN.{length, length-append, length-drop, length-replicate}
use lib.Seq.{length-take-le}
use Rattle.standards.specs.Strings.{Bytes, Block}
use Rattle.standards.specs.Rfc7253.{Plaintext, VALID, INVALID, Offset-0, OCB-ENCRYPT, OCB-DECRYPT, OCB-DECRYPT-inputs}
use Rattle.ocb_laws.proofs.Cipher.{Cipher}
use Rattle.ocb_laws.proofs.RoundTrip.{encrypt_decrypt, decrypt_bytes, encrypt_length}
use Rattle.ocb_laws.proofs.Calls.{encrypt_calls, decrypt_calls}
use Rattle.ocb_variables.specs.declared.State.{State}
use Rattle.ocb_variables.specs.Held.{held}
use Rattle.ocb_numbers.specs.Numbers.{refusal, count, InRange}
use Rattle.ocb.specs.Answers.{Outcome, seal_refused, open_refused, unless, encrypted, verdict, sealed, opened}
use Rattle.ocb.specs.Terms.{HoldsBytes}
use Rattle.ocb_numbers.proofs.Refusals.{in_range}
use Rattle.ocb.proofs.AesKey.{held_cipher, first_block}

-- the number that the sizes ask for
abbrev pub asked : State → List ℕ → List ℕ → List ℕ → List ℕ → ℕ
asked s N A S T = refusal s.values.m s.values.rounds (length N) (length A) (length S) (length T)

-- a refusal leaves what was lent, so what holds of that and of the work holds in any case
pub either : (P : Outcome → Type 0) (n : ℕ) (refused : ℕ → Outcome) (done : Outcome) → ((k : ℕ) → P (refused k)) → (n ≡ 0 → P done) → P (unless n refused done)
either P zero refused done r d = d refl
either P (suc n) refused done r d = r (suc n)

module _ (s : State) (h : HoldsBytes s) (N A S T : List ℕ) (N-bytes : Bytes N) (S-bytes : Bytes S) where
  sizes : asked s N A S T ≡ 0 → InRange s.values.m (length N) (length A) (length S) (length T)
  sizes none = (in_range s.values.m s.values.rounds (length N) (length A) (length S) (length T) none).1

  first : asked s N A S T ≡ 0 → Block (Offset-0 (held s) (length T) N)
  first none = first_block (held s) (held_cipher s h) (length T) N (sizes none).nonce_size (sizes none).tag_size N-bytes

  pub seal_lengths : (length (sealed s N A S T).text ≡ length S) × (length (sealed s N A S T).tag ≡ length T)
  unfolding sealed
  seal_lengths =
      either (λ o. (length o.text ≡ length S) × (length o.tag ≡ length T)) (asked s N A S T) (seal_refused S T) (encrypted (held s) N A S T)
      (λ k. (refl, refl))
      (λ none.
      let long : length (OCB-ENCRYPT (held s) (length T) N A S) ≡ length S + length T =
      encrypt_length (held_cipher s h) (length T) N A (sizes none).tag_size.to (first none) S S-bytes in
      (length-take-le (length S) _ (omega arith), length-drop (length S) (OCB-ENCRYPT (held s) (length T) N A S) ∙ omega arith))

  pub open_length : length (opened s N A S T).text ≡ length S
  unfolding opened
  open_length =
      either (λ o. length o.text ≡ length S) (asked s N A S T) (open_refused S T) _ (λ k. refl)
      (λ none. go none (OCB-DECRYPT (held s) (length T) N A (S ++ T)) (length (OCB-DECRYPT-inputs (held s) (length T) N A (S ++ T))) refl)
    where
      go : asked s N A S T ≡ 0 → (D : Plaintext) (calls : ℕ) → OCB-DECRYPT (held s) (length T) N A (S ++ T) ≡ D → length (verdict D calls S T).text ≡ length S
      go none INVALID calls e = length-replicate (length S) 0
      go none (VALID P) calls e =
          let cipher : Cipher (held s) = held_cipher s h in
          let most = (sizes none).tag_size.to in
          let back : OCB-ENCRYPT (held s) (length T) N A P ≡ S ++ T = encrypt_decrypt cipher (length T) N A most (first none) S T P S-bytes refl e in
          let bytes : Bytes P = decrypt_bytes cipher (length T) N A most (first none) S T P S-bytes refl e in
          omega (arith, ap length back, length-append S T, encrypt_length cipher (length T) N A most (first none) P bytes)

pub verdict_calls : (D : Plaintext) (n : ℕ) (S T : List ℕ) → (verdict D n S T).calls ≡ n
verdict_calls (VALID P) n S T = refl
verdict_calls INVALID n S T = refl

module _ (s : State) (N A S T : List ℕ) (none : asked s N A S T ≡ 0) where
  pub seal_count : (sealed s N A S T).calls ≡ count (length A) (length S)
  unfolding sealed
  seal_count = rw none (encrypt_calls (held s) (length T) N A S)

  pub open_count : (opened s N A S T).calls ≡ count (length A) (length S)
  unfolding opened
  open_count = rw none (verdict_calls (OCB-DECRYPT (held s) (length T) N A (S ++ T)) _ S T ∙ decrypt_calls (held s) (length T) N A S T refl)
