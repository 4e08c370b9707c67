-- What set_up, seal and open give for a state made from a key, said over that key alone: the state holds the key as far as its table goes, and sizes in
-- range ask for no more of it. Assumes nothing.
use mathlib.Core.Path.{◌≡◌, refl, sym, ap, ap₂, ◌∙◌}
use mathlib.Core.List.{List}
use Prim.Native.Nat.{ℕ, zero, suc, ◌/◌, ◌≤◌}
use native.Mathlib.Omega.{arith}
use lib.ListN.{length, take, drop}
use Rattle.sizes.specs.Sizes.{rounds_for, KeyLength, m_most}
use Rattle.sizes.proofs.KeyLaws.{rounds_for_lem}
use Rattle.standards.specs.Strings.{Bytes}
use Rattle.standards.specs.Rfc7253.{Plaintext}
use Rattle.standards.specs.AesOcb.{AES}
use Rattle.ocb_laws.proofs.Agree.{encrypt_agrees, encrypt_inputs_agree, decrypt_agrees, decrypt_inputs_agree}
use Rattle.ocb_variables.specs.declared.State.{State}
use Rattle.ocb_variables.specs.State.{state_of, state_for}
use Rattle.ocb_variables.specs.Held.{held}
use Rattle.ocb_variables.proofs.KeyLaws.{state_sized}
use Rattle.ocb.specs.declared.SetUp.{SetUp}
use Rattle.ocb_numbers.specs.Numbers.{set_up_number, refusal}
use Rattle.ocb.specs.Answers.{made_unless, set_up, Outcome, seal_refused, open_refused, unless, encrypted, verdict, decrypted, sealed, opened}
use Rattle.ocb_numbers.specs.Numbers.{Inside, InRange}
use Rattle.ocb.specs.Terms.{MadeFrom, HoldsBytes}
use Rattle.ocb_numbers.proofs.Refusals.{set_up_sizes, admits}
use Rattle.ocb.proofs.AesKey.{state_holds}

pub made_state : {k : List ℕ} {m : ℕ} {u : SetUp} → MadeFrom k m u → u.state ≡ state_for k m
unfolding set_up
made_state {k} {m} {u} made = ap (λ (v : SetUp). v.state) made.promise ∙ go (set_up_number (length k) m) (sym (ap (λ (v : SetUp). v.number) made.promise) ∙ made.accepted)
  where
    s : State
    s = state_for k m

    go : (n : ℕ) → (made_unless n s).number ≡ 0 → (made_unless n s).state ≡ s
    go zero e = refl
    go (suc n) e = absurd (omega arith)

-- its key has an admitted length, and m is in range
pub made_sizes : {k : List ℕ} {m : ℕ} {u : SetUp} → MadeFrom k m u → KeyLength (length k) × Inside 1 m_most m
unfolding set_up
made_sizes {k} {m} {u} made =
    set_up_sizes (length k) m (go (set_up_number (length k) m) (sym (ap (λ (v : SetUp). v.number) made.promise) ∙ made.accepted))
  where
    go : (n : ℕ) → (made_unless n (state_for k m)).number ≡ 0 → n ≡ 0
    go zero e = refl
    go (suc n) e = e

pub state_holds_bytes : (w : List ℕ) (rounds m : ℕ) → Bytes w → m ≤ m_most → HoldsBytes (state_of w rounds m)
unfolding state_of
state_holds_bytes w rounds m h l =
    let sized = state_sized w rounds m h l in
    record { keys = h; star = sized.star.bytes; dollar = sized.dollar.bytes; table = sized.bytes }

module _ {k : List ℕ} {m : ℕ} {u : SetUp} (made : MadeFrom k m u) (N A S T : List ℕ)
    (sizes : InRange m (length N) (length A) (length S) (length T)) where
  s : State
  s = state_for k m

  long : KeyLength (length k)
  long = (made_sizes made).0

  no_refusal : (refused : ℕ → Outcome) {o : Outcome}
      → unless (refusal m (rounds_for (length k)) (length N) (length A) (length S) (length T)) refused o ≡ o
  no_refusal refused {o} =
      ap (λ (n : ℕ). unless n refused o) (admits m (rounds_for (length k)) (length N) (length A) (length S) (length T) (rounds_for_lem long) sizes)

  pub seal_is : sealed u.state N A S T ≡ encrypted (AES (length k / 4) k) N A S T
  unfolding sealed state_of s
  seal_is =
      ap (λ (v : State). sealed v N A S T) (made_state made)
      ∙ no_refusal (seal_refused S T)
      ∙ ap₂ (λ (E : List ℕ) (I : List (List ℕ)). record { number = 0; calls = length I; text = take (length S) E; tag = drop (length S) E })
      (encrypt_agrees m (held s) (AES (length k / 4) k) (state_holds k long m) (length T) N A sizes.ad_size S sizes.text_size)
      (encrypt_inputs_agree m (held s) (AES (length k / 4) k) (state_holds k long m) (length T) N A sizes.ad_size S sizes.text_size)

  pub open_is : opened u.state N A S T ≡ decrypted (AES (length k / 4) k) N A S T
  unfolding opened state_of s
  open_is =
      ap (λ (v : State). opened v N A S T) (made_state made)
      ∙ no_refusal (open_refused S T)
      ∙ ap₂ (λ (D : Plaintext) (I : List (List ℕ)). verdict D (length I) S T)
      (decrypt_agrees m (held s) (AES (length k / 4) k) (state_holds k long m) (length T) N A sizes.ad_size S T sizes.text_size refl)
      (decrypt_inputs_agree m (held s) (AES (length k / 4) k) (state_holds k long m) (length T) N A sizes.ad_size S T sizes.text_size refl)
