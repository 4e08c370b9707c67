-- The demands, as theorems. Each speaks of any answer that meets the promise of set_up, seal or open (specs/Answers.antt), and so of what the code answers;
-- for a state made from a key it speaks of that key, RFC 7253 and FIPS 197 alone. Under one nonce N and associated data A, S is the text that is lent and T
-- the tag or its place; r is the answer, S' and T' are what is left. Assumes nothing.
use mathlib.Core.Path.{◌≡◌, refl, sym, ap, ap₂, subst, subst⁻¹, subst₂, ◌∙◌}
use mathlib.Core.Logic.{◌↔◌}
use mathlib.Core.List.{List, ◌++◌}
use Prim.Native.Nat.{ℕ, zero, suc, ◌/◌, ◌≤◌}
use native.Mathlib.Omega.{arith}
use lib.ListN.{length, take-append-drop}
use Rattle.sizes.specs.Sizes.{rounds_for}
use Rattle.standards.specs.Strings.{zeros, Bytes, Block}
use Rattle.standards.specs.Rfc7253.{Key, Plaintext, VALID, INVALID, Offset-0, OCB-ENCRYPT, OCB-ENCRYPT-inputs, OCB-DECRYPT, OCB-DECRYPT-inputs}
use Rattle.standards.specs.AesOcb.{AES}
use Rattle.aes.specs.Schedule.{round_keys_of}
use Rattle.aes.proofs.Expansion.{round_keys_bytes}
use Rattle.ocb_laws.proofs.Cipher.{Cipher}
use Rattle.ocb_laws.proofs.RoundTrip.{decrypt_encrypt, encrypt_decrypt, decrypt_bytes}
use Rattle.ocb_laws.proofs.Calls.{encrypt_calls, decrypt_calls}
use Rattle.ocb_variables.specs.declared.State.{State}
use Rattle.ocb_variables.specs.Held.{held}
use Rattle.ocb_variables.specs.State.{state_for}
use Rattle.ocb.specs.declared.SetUp.{SetUp}
use Rattle.ocb.specs.declared.Answer.{Answer}
use Rattle.ocb_numbers.specs.Numbers.{set_up_number, size_rules, refusal, count, InRange}
use Rattle.ocb.specs.Answers.{zero_state, made_unless, set_up, Outcome, untouched, seal_refused, open_refused, unless, encrypted, verdict, decrypted, sealed, opened, Leaves}
use Rattle.ocb.specs.Terms.{MadeFrom, Encrypts, Told, HoldsBytes}
use Rattle.ocb_numbers.proofs.RuleLaws.{first-at}
use Rattle.ocb_numbers.proofs.Refusals.{in_range, refusal_most}
use Rattle.ocb.proofs.AesKey.{aes_cipher, held_cipher, first_block}
use Rattle.ocb.proofs.AnyState.{asked, verdict_calls, seal_lengths}
use Rattle.ocb.proofs.MadeState.{made_state, made_sizes, state_holds_bytes, seal_is, open_is}

-- OCB-DECRYPT's verdict under a key, and how many blocks it takes
abbrev decryption : Key → List ℕ → List ℕ → List ℕ → List ℕ → Plaintext
decryption K N A S T = OCB-DECRYPT K (length T) N A (S ++ T)

abbrev inputs : Key → List ℕ → List ℕ → List ℕ → List ℕ → ℕ
inputs K N A S T = length (OCB-DECRYPT-inputs K (length T) N A (S ++ T))

-- ---- Demand 1: every input is answered, and what a refusal leaves

zeros_after_7 : (n : ℕ) (D : Plaintext) (calls : ℕ) (S T : List ℕ) {r : Answer} {S' T' : List ℕ} → n ≤ 6
    → Leaves (unless n (open_refused S T) (verdict D calls S T)) r S' T' → r.number ≡ 7 → (S' ≡ zeros (length S)) × (T' ≡ T)
zeros_after_7 zero (VALID P) calls S T h L e = absurd (omega (arith, L.number))
zeros_after_7 zero INVALID calls S T h L e = (L.text_left, L.tag_left)
zeros_after_7 (suc n) D calls S T h L e = absurd (omega (arith, L.number))

-- a refused tag leaves every byte of the text zero, and the tag as it was
pub refused_zero : (s : State) (N A S T : List ℕ) {r : Answer} {S' T' : List ℕ} → Leaves (opened s N A S T) r S' T' → r.number ≡ 7
    → (S' ≡ zeros (length S)) × (T' ≡ T)
unfolding opened
refused_zero s N A S T L e =
    zeros_after_7 (asked s N A S T) (decryption (held s) N A S T) (inputs (held s) N A S T) S T
    (refusal_most s.values.m s.values.rounds (length N) (length A) (length S) (length T)) L e

kept : (n : ℕ) (o : Outcome) (S T : List ℕ) {r : Answer} {S' T' : List ℕ} → Leaves (unless n (untouched S T) o) r S' T' → (n ≡ 0 → r.number ≡ o.number → ⊥)
    → (S' ≡ S) × (T' ≡ T) × (r.calls ≡ 0)
kept zero o S T L h = absurd (h refl L.number)
kept (suc n) o S T L h = (L.text_left, L.tag_left, L.calls)

not_told : (D : Plaintext) (calls : ℕ) (S T : List ℕ) {n : ℕ} → (n ≡ 0 → ⊥) → (n ≡ 7 → ⊥) → n ≡ (verdict D calls S T).number → ⊥
not_told (VALID P) calls S T h k e = h e
not_told INVALID calls S T h k e = k e

-- any other refusal leaves the text and the tag as they were, and calls nothing
pub sizes_untouched : (s : State) (N A S T : List ℕ) {r : Answer} {S' T' : List ℕ} → (r.number ≡ 0 → ⊥)
    → (Leaves (sealed s N A S T) r S' T' → (S' ≡ S) × (T' ≡ T) × (r.calls ≡ 0))
    × ((r.number ≡ 7 → ⊥) → Leaves (opened s N A S T) r S' T' → (S' ≡ S) × (T' ≡ T) × (r.calls ≡ 0))
unfolding sealed opened
sizes_untouched s N A S T h = (
  λ L. kept (asked s N A S T) (encrypted (held s) N A S T) S T L (λ _ e. h e),
  λ k L. kept (asked s N A S T) (decrypted (held s) N A S T) S T L (λ _ e. not_told (decryption (held s) N A S T) (inputs (held s) N A S T) S T h k e),
)

never : (n : ℕ) (s : State) → ((made_unless n s).number ≡ 0 → ⊥) → (nonce ad text tag : ℕ)
    → refusal (made_unless n s).state.values.m (made_unless n s).state.values.rounds nonce ad text tag ≡ 2
unfolding zero_state refusal
never zero s h nonce ad text tag = absurd (h refl)
never (suc n) s h nonce ad text tag = first-at 0 (size_rules 0 0 nonce ad text tag) tt refl

-- a refused set-up's state is answered with 2 forever, and nothing is changed
pub refused_forever : (k : List ℕ) (m : ℕ) (u : SetUp) → u ≡ set_up k m → (u.number ≡ 0 → ⊥) → (N A S T : List ℕ) {r : Answer} {S' T' : List ℕ}
    → (Leaves (sealed u.state N A S T) r S' T' → (r.number ≡ 2) × (r.calls ≡ 0) × (S' ≡ S) × (T' ≡ T))
    × (Leaves (opened u.state N A S T) r S' T' → (r.number ≡ 2) × (r.calls ≡ 0) × (S' ≡ S) × (T' ≡ T))
unfolding set_up sealed opened
refused_forever k m u e h N A S T {r} {S'} {T'} =
    let two : asked u.state N A S T ≡ 2 =
    ap (λ (v : SetUp). asked v.state N A S T) e
    ∙ never (set_up_number (length k) m) (state_for k m) (λ z. h (ap (λ (v : SetUp). v.number) e ∙ z)) (length N) (length A) (length S) (length T) in (
      λ L. let M = subst (λ (n : ℕ). Leaves (unless n (seal_refused S T) (encrypted (held u.state) N A S T)) r S' T') two L in
          (M.number, M.calls, M.text_left, M.tag_left),
      λ L. let M = subst (λ (n : ℕ). Leaves (unless n (open_refused S T) (decrypted (held u.state) N A S T)) r S' T') two L in
          (M.number, M.calls, M.text_left, M.tag_left),
    )

-- ---- Demand 2: what seal and open do is RFC 7253's, over AES of FIPS 197

told : (D : Plaintext) (calls : ℕ) (S T : List ℕ) {r : Answer} {S' T' : List ℕ} → Leaves (verdict D calls S T) r S' T' → Told D S r S'
told (VALID P) calls S T L = (L.number, L.text_left)
told INVALID calls S T L = (L.number, L.text_left)

module _ {k : List ℕ} {m : ℕ} {u : SetUp} (made : MadeFrom k m u) (N A S T : List ℕ)
    (sizes : InRange m (length N) (length A) (length S) (length T)) {r : Answer} {S' T' : List ℕ} where
  pub seal_rfc : Leaves (sealed u.state N A S T) r S' T' → (r.number ≡ 0) × (S' ++ T' ≡ OCB-ENCRYPT (AES (length k / 4) k) (length T) N A S)
  seal_rfc L =
      let e = seal_is made N A S T sizes in (
        L.number ∙ ap (λ (o : Outcome). o.number) e,
        ap₂ (λ (a b : List ℕ). a ++ b) (L.text_left ∙ ap (λ (o : Outcome). o.text) e) (L.tag_left ∙ ap (λ (o : Outcome). o.tag) e)
            ∙ take-append-drop (length S) (OCB-ENCRYPT (AES (length k / 4) k) (length T) N A S),
      )

  pub open_rfc : Leaves (opened u.state N A S T) r S' T' → Told (OCB-DECRYPT (AES (length k / 4) k) (length T) N A (S ++ T)) S r S'
  open_rfc L =
      told (decryption (AES (length k / 4) k) N A S T) (inputs (AES (length k / 4) k) N A S T) S T (subst (λ (o : Outcome). Leaves o r S' T') (open_is made N A S T sizes) L)

  -- the count of calls is the number of blocks that RFC 7253's procedure hands to the cipher
  pub calls_seal : Leaves (sealed u.state N A S T) r S' T'
      → (r.calls ≡ length (OCB-ENCRYPT-inputs (AES (length k / 4) k) (length T) N A S)) × (r.calls ≡ count (length A) (length S))
  calls_seal L =
      let e : r.calls ≡ length (OCB-ENCRYPT-inputs (AES (length k / 4) k) (length T) N A S) =
      L.calls ∙ ap (λ (o : Outcome). o.calls) (seal_is made N A S T sizes) in
      (e, e ∙ encrypt_calls (AES (length k / 4) k) (length T) N A S)

  pub calls_open : Leaves (opened u.state N A S T) r S' T'
      → (r.calls ≡ length (OCB-DECRYPT-inputs (AES (length k / 4) k) (length T) N A (S ++ T))) × (r.calls ≡ count (length A) (length S))
  calls_open L =
      let e : r.calls ≡ length (OCB-DECRYPT-inputs (AES (length k / 4) k) (length T) N A (S ++ T)) =
      L.calls ∙ ap (λ (o : Outcome). o.calls) (open_is made N A S T sizes) ∙ verdict_calls (decryption (AES (length k / 4) k) N A S T) _ S T in
      (e, e ∙ decrypt_calls (AES (length k / 4) k) (length T) N A S T refl)

-- ---- Demand 3: open accepts exactly what RFC 7253's encryption produces, the buffer then holds that plaintext, and no second one exists

accepted_text : (D : Plaintext) (S : List ℕ) (r : Answer) (S' : List ℕ) → Told D S r S' → r.number ≡ 0 → D ≡ VALID S'
accepted_text (VALID P) S r S' t e = ap VALID (sym t.1)
accepted_text INVALID S r S' t e = absurd (omega (arith, t.0))

module _ {k : List ℕ} {m : ℕ} {u : SetUp} (made : MadeFrom k m u) (N A S T : List ℕ)
    (sizes : InRange m (length N) (length A) (length S) (length T)) (N-bytes : Bytes N) (S-bytes : Bytes S) where
  cipher : Cipher (AES (length k / 4) k)
  cipher = aes_cipher k made.key_bytes

  first : Block (Offset-0 (AES (length k / 4) k) (length T) N)
  first = first_block (AES (length k / 4) k) cipher (length T) N sizes.nonce_size sizes.tag_size N-bytes

  -- a plaintext that encrypts to just these is what decryption gives
  decrypts : (P : List ℕ) → Encrypts k N A P S T → OCB-DECRYPT (AES (length k / 4) k) (length T) N A (S ++ T) ≡ VALID P
  decrypts P E =
      ap (OCB-DECRYPT (AES (length k / 4) k) (length T) N A) (sym E.gives)
      ∙ decrypt_encrypt cipher (length T) N A sizes.tag_size.to first P E.plain_bytes

  pub open_only : (P Q : List ℕ) → Encrypts k N A P S T → Encrypts k N A Q S T → P ≡ Q
  open_only P Q E F = let e : VALID P ≡ VALID Q = sym (decrypts P E) ∙ decrypts Q F in cc

  module _ {r : Answer} {S' T' : List ℕ} (L : Leaves (opened u.state N A S T) r S' T') where
    pub open_gives : r.number ≡ 0 → Encrypts k N A S' S T
    open_gives e =
        let D : OCB-DECRYPT (AES (length k / 4) k) (length T) N A (S ++ T) ≡ VALID S' =
        accepted_text (decryption (AES (length k / 4) k) N A S T) S r S' (open_rfc made N A S T sizes L) e in
        record {
          plain_bytes = decrypt_bytes cipher (length T) N A sizes.tag_size.to first S T S' S-bytes refl D;
          gives = encrypt_decrypt cipher (length T) N A sizes.tag_size.to first S T S' S-bytes refl D;
        }

    pub open_exactly : (r.number ≡ 0) ↔ ((P : List ℕ) × Encrypts k N A P S T)
    open_exactly = (
      λ e. (S', open_gives e),
      λ p. (subst (λ (D : Plaintext). Told D S r S') (decrypts p.0 p.1) (open_rfc made N A S T sizes L)).0,
    )

not_refused : (n : ℕ) (o : Outcome) (S T : List ℕ) {r : Answer} {S' T' : List ℕ} → Leaves (unless n (seal_refused S T) o) r S' T' → r.number ≡ 0
    → (n ≡ 0) × Leaves o r S' T'
not_refused zero o S T L e = (refl, L)
not_refused (suc n) o S T L e = absurd (omega (arith, L.number))

-- what seal wrote, open takes back, under any state, whoever made it
pub seal_opens : (s : State) → HoldsBytes s → (N A P T : List ℕ) → Bytes N → Bytes P
    → {r : Answer} {C T' : List ℕ} → Leaves (sealed s N A P T) r C T' → r.number ≡ 0
    → {q : Answer} {P' T'' : List ℕ} → Leaves (opened s N A C T') q P' T'' → (q.number ≡ 0) × (P' ≡ P)
unfolding sealed opened
seal_opens s h N A P T N-bytes P-bytes {r} {C} {T'} L e {q} {P'} {T''} M =
    let K : Key = held s in
    let t : ℕ = length T in
    let E : List ℕ = OCB-ENCRYPT K t N A P in
    let done = not_refused (asked s N A P T) (encrypted K N A P T) P T L e in
    let sizes : InRange s.values.m (length N) (length A) (length P) t =
    (in_range s.values.m s.values.rounds (length N) (length A) (length P) t done.0).1 in
    let cipher : Cipher K = held_cipher s h in
    let first : Block (Offset-0 K t N) = first_block K cipher t N sizes.nonce_size sizes.tag_size N-bytes in
    let long = seal_lengths s h N A P T N-bytes P-bytes in
    let text_long : length C ≡ length P = ap length L.text_left ∙ long.0 in
    let tag_long : length T' ≡ t = ap length L.tag_left ∙ long.1 in
    let whole : C ++ T' ≡ E = ap₂ (λ (a b : List ℕ). a ++ b) done.1.text_left done.1.tag_left ∙ take-append-drop (length P) E in
    let asks : asked s N A C T' ≡ 0 = ap₂ (λ (i j : ℕ). refusal s.values.m s.values.rounds (length N) (length A) j i) tag_long text_long ∙ done.0 in
    let valid : decryption K N A C T' ≡ VALID P =
    ap₂ (λ (i : ℕ) (S : List ℕ). OCB-DECRYPT K i N A S) tag_long whole ∙ decrypt_encrypt cipher t N A sizes.tag_size.to first P P-bytes in
    let left : Leaves (verdict (VALID P) (inputs K N A C T') C T') q P' T'' =
    subst₂ (λ (n : ℕ) (D : Plaintext). Leaves (unless n (open_refused C T') (verdict D (inputs K N A C T') C T')) q P' T'') asks valid M in
    (left.number, left.text_left)

-- a state made from a key holds bytes, so that what seal wrote under it opens too
pub made_holds : {k : List ℕ} {m : ℕ} {u : SetUp} → MadeFrom k m u → HoldsBytes u.state
made_holds {k} {m} {u} made =
    subst⁻¹ HoldsBytes (made_state made)
    (state_holds_bytes (round_keys_of k) (rounds_for (length k)) m (round_keys_bytes k made.key_bytes) (made_sizes made).1.to)

pub made_seal_opens : {k : List ℕ} {m : ℕ} {u : SetUp} → MadeFrom k m u → (N A P T : List ℕ) → Bytes N → Bytes P
    → {r : Answer} {C T' : List ℕ} → Leaves (sealed u.state N A P T) r C T' → r.number ≡ 0
    → {q : Answer} {P' T'' : List ℕ} → Leaves (opened u.state N A C T') q P' T'' → (q.number ≡ 0) × (P' ≡ P)
made_seal_opens {u = u} made = seal_opens u.state (made_holds made)

-- ---- The promises admit one answer

pub set_up_single : (k : List ℕ) (m : ℕ) (u v : SetUp) → u ≡ set_up k m → v ≡ set_up k m → u ≡ v
set_up_single k m u v p q = p ∙ sym q

pub single : (o : Outcome) (r q : Answer) {S T S' T' : List ℕ} → Leaves o r S T → Leaves o q S' T' → (r ≡ q) × (S ≡ S') × (T ≡ T')
single o r q L M = (
  λ i. record { number = (L.number ∙ sym M.number) i; calls = (L.calls ∙ sym M.calls) i },
  L.text_left ∙ sym M.text_left,
  L.tag_left ∙ sym M.tag_left,
)

pub seal_single : (s : State) (N A S T : List ℕ) (r q : Answer) {S₁ T₁ S₂ T₂ : List ℕ}
    → Leaves (sealed s N A S T) r S₁ T₁ → Leaves (sealed s N A S T) q S₂ T₂ → (r ≡ q) × (S₁ ≡ S₂) × (T₁ ≡ T₂)
seal_single s N A S T r q L M = single (sealed s N A S T) r q L M

pub open_single : (s : State) (N A S T : List ℕ) (r q : Answer) {S₁ T₁ S₂ T₂ : List ℕ}
    → Leaves (opened s N A S T) r S₁ T₁ → Leaves (opened s N A S T) q S₂ T₂ → (r ≡ q) × (S₁ ≡ S₂) × (T₁ ≡ T₂)
open_single s N A S T r q L M = single (opened s N A S T) r q L M
