-- The procedures look at L_0 to L_m alone while a string is within m: two keys that agree there give one result.
-- Each offset is the same, by induction; all else is made of offsets.
-- Assumes nothing.
use mathlib.Core.Path.{◌≡◌, refl, sym, ap, ap₂, ◌∙◌, subst}
use mathlib.Core.List.{List, [], ◌∷◌, ◌++◌}
use Prim.Native.Nat.{ℕ, zero, suc, ◌-◌, ◌≤◌}
use native.Mathlib.Nat.{zero-lt-suc}
use native.Mathlib.Omega.{arith}
use lib.ListN.{length, take, length-append}
use lib.Seq.{take_at}
use Rattle.standards.specs.Strings.{◌xor◌, zeros}
use Rattle.standards.specs.Rfc7253.{Key, Offset-0, top, ntz, wholes, block_at, rest, Offset, seal_block, open_block, hash_block, plain_block, Blocks, Sum, Inputs, last_offset, last_text, last_sum, last_input, last_hash, last_hash_input, HASH, HASH-inputs, text, end_offset, seal_sum, open_sum, Tag, inputs, OCB-ENCRYPT, OCB-ENCRYPT-inputs, OCB-DECRYPT, OCB-DECRYPT-inputs, decrypted, valid_if, same}
use Rattle.ocb_numbers.specs.Numbers.{Fits}
use Rattle.ocb_laws.proofs.TableLaws.{Reach, wholes_reach, in_place}
use Rattle.ocb_laws.proofs.RoundTrip.{decrypt_split}

pub record Agrees (m : ℕ) (K K' : Key) : Type 0 where
  pub enciphers : K.ENCIPHER ≡ K'.ENCIPHER
  pub deciphers : K.DECIPHER ≡ K'.DECIPHER
  pub star : K.L-* ≡ K'.L-*
  pub dollar : K.L-$ ≡ K'.L-$
  pub table : (i : ℕ) → i ≤ m → K.L i ≡ K'.L i

-- K with other L values
abbrev with : Key → (ℕ → List ℕ) → Key
with K L = record { ENCIPHER = K.ENCIPHER; DECIPHER = K.DECIPHER; L-* = K.L-*; L-$ = K.L-$; L = L }

earlier : {m i : ℕ} → Reach m (suc i) → Reach m i
earlier h j p l = h j p (omega arith)

-- the definitions by cases on a last part
by_cases : {X : Type 0} (F G : List ℕ → X) → F [] ≡ G [] → ((x : ℕ) (S : List ℕ) → F (x ∷ S) ≡ G (x ∷ S)) → (S : List ℕ) → F S ≡ G S
by_cases F G none some [] = none
by_cases F G none some (x ∷ S) = some x S

module _ (K : Key) (L : ℕ → List ℕ) (m : ℕ) (agree : (i : ℕ) → i ≤ m → K.L i ≡ L i) where
  offset_same : (O : List ℕ) (i : ℕ) → Reach m i → Offset K O i ≡ Offset (with K L) O i
  unfolding Offset
  offset_same O zero h = refl
  offset_same O (suc i) h = ap₂ (λ (a b : List ℕ). a xor b) (offset_same O i (earlier h)) (agree (ntz (suc i)) (in_place (h (suc i) (zero-lt-suc i) (omega arith))))

  blocks_same : (f : List ℕ → List ℕ → List ℕ) (O S : List ℕ) (i : ℕ) → Reach m i → Blocks f K O S i ≡ Blocks f (with K L) O S i
  unfolding Blocks
  blocks_same f O S zero h = refl
  blocks_same f O S (suc i) h = ap₂ (λ (a b : List ℕ). a ++ f b (block_at S i)) (blocks_same f O S i (earlier h)) (offset_same O (suc i) h)

  sum_same : (g : List ℕ → List ℕ → List ℕ) (O S : List ℕ) (i : ℕ) → Reach m i → Sum g K O S i ≡ Sum g (with K L) O S i
  unfolding Sum
  sum_same g O S zero h = refl
  sum_same g O S (suc i) h = ap₂ (λ (a b : List ℕ). a xor g b (block_at S i)) (sum_same g O S i (earlier h)) (offset_same O (suc i) h)

  inputs_same : (O S : List ℕ) (i : ℕ) → Reach m i → Inputs K O S i ≡ Inputs (with K L) O S i
  unfolding Inputs
  inputs_same O S zero h = refl
  inputs_same O S (suc i) h = ap₂ (λ (a : List (List ℕ)) (b : List ℕ). a ++ ((block_at S i xor b) ∷ [])) (inputs_same O S i (earlier h)) (offset_same O (suc i) h)

  module _ (O S : List ℕ) (h : Fits m (length S)) where
    whole_same : Offset K O (wholes S) ≡ Offset (with K L) O (wholes S)
    whole_same = offset_same O (wholes S) (wholes_reach m S h)

    end_same : end_offset K O S ≡ end_offset (with K L) O S
    unfolding end_offset last_offset
    end_same =
        ap (λ (o : List ℕ). last_offset K o (rest S)) whole_same
        ∙ by_cases (last_offset K _) (last_offset (with K L) _) refl (λ x T. refl) (rest S)

    text_same : (f : Key → List ℕ → List ℕ → List ℕ) → f K ≡ f (with K L) → text f K O S ≡ text f (with K L) O S
    unfolding text last_text
    text_same f e =
        ap₂ (λ (g : List ℕ → List ℕ → List ℕ) (o : List ℕ). Blocks g K O S (wholes S) ++ last_text K o (rest S)) e whole_same
        ∙ ap (λ (b : List ℕ). b ++ last_text K (Offset (with K L) O (wholes S)) (rest S)) (blocks_same (f (with K L)) O S (wholes S) (wholes_reach m S h))

    seal_text_same : text seal_block K O S ≡ text seal_block (with K L) O S
    unfolding seal_block
    seal_text_same = text_same seal_block refl

    open_text_same : text open_block K O S ≡ text open_block (with K L) O S
    unfolding open_block
    open_text_same = text_same open_block refl

    seal_sum_same : seal_sum K O S ≡ seal_sum (with K L) O S
    unfolding seal_sum
    seal_sum_same = ap (λ (s : List ℕ). last_sum s (rest S)) (sum_same plain_block O S (wholes S) (wholes_reach m S h))

    open_sum_same : open_sum K O S ≡ open_sum (with K L) O S
    unfolding open_sum open_block last_text
    open_sum_same =
        ap₂ (λ (s o : List ℕ). last_sum s (last_text K o (rest S))) (sum_same (open_block K) O S (wholes S) (wholes_reach m S h)) whole_same

  hash_same : (A : List ℕ) → Fits m (length A) → HASH K A ≡ HASH (with K L) A
  unfolding HASH hash_block last_hash
  hash_same A h =
      ap₂ (λ (o s : List ℕ). last_hash K o s (rest A)) (whole_same (zeros 16) A h) (sum_same (hash_block K) (zeros 16) A (wholes A) (wholes_reach m A h))
      ∙ by_cases (last_hash K _ _) (last_hash (with K L) _ _) refl (λ x T. refl) (rest A)

  hash_inputs_same : (A : List ℕ) → Fits m (length A) → HASH-inputs K A ≡ HASH-inputs (with K L) A
  unfolding HASH-inputs last_hash_input
  hash_inputs_same A h =
      ap₂ (λ (a b : List (List ℕ)). a ++ b)
      (inputs_same (zeros 16) A (wholes A) (wholes_reach m A h))
      (ap (λ (o : List ℕ). last_hash_input K o (rest A)) (whole_same (zeros 16) A h)
      ∙ by_cases (last_hash_input K _) (last_hash_input (with K L) _) refl (λ x T. refl) (rest A))

  tag_same : (s O A : List ℕ) → Fits m (length A) → Tag K s O A ≡ Tag (with K L) s O A
  unfolding Tag
  tag_same s O A h = ap (λ (x : List ℕ). K.ENCIPHER (s xor O xor K.L-$) xor x) (hash_same A h)

  all_inputs_same : (t : ℕ) (N A O S s : List ℕ) → Fits m (length S) → Fits m (length A) → inputs K t N A O S s ≡ inputs (with K L) t N A O S s
  unfolding inputs last_input
  all_inputs_same t N A O S s hS hA =
      ap₂ (λ (a b : List (List ℕ)). (top t N ∷ a) ++ b)
      (inputs_same O S (wholes S) (wholes_reach m S hS))
      (ap₂ (λ (a b : List (List ℕ)). a ++ b)
      (ap (λ (o : List ℕ). last_input K o (rest S)) (whole_same O S hS)
      ∙ by_cases (last_input K _) (last_input (with K L) _) refl (λ x T. refl) (rest S))
      (ap₂ (λ (o : List ℕ) (b : List (List ℕ)). (s xor o xor K.L-$) ∷ b) (end_same O S hS) (hash_inputs_same A hA)))

  module _ (t : ℕ) (N A : List ℕ) (hA : Fits m (length A)) where
    encrypt_same : (P : List ℕ) → Fits m (length P) → OCB-ENCRYPT K t N A P ≡ OCB-ENCRYPT (with K L) t N A P
    unfolding OCB-ENCRYPT Offset-0
    encrypt_same P h =
        let O : List ℕ = Offset-0 K t N in
        ap₂ (λ (c g : List ℕ). c ++ take t g)
        (seal_text_same O P h)
        (ap₂ (λ (s o : List ℕ). Tag K s o A) (seal_sum_same O P h) (end_same O P h) ∙ tag_same _ _ A hA)

    encrypt_inputs_same : (P : List ℕ) → Fits m (length P) → OCB-ENCRYPT-inputs K t N A P ≡ OCB-ENCRYPT-inputs (with K L) t N A P
    unfolding OCB-ENCRYPT-inputs Offset-0
    encrypt_inputs_same P h =
        let O : List ℕ = Offset-0 K t N in
        ap (inputs K t N A O P) (seal_sum_same O P h) ∙ all_inputs_same t N A O P _ h hA

    decrypted_same : (C T : List ℕ) → Fits m (length C) → decrypted K t N A C T ≡ decrypted (with K L) t N A C T
    unfolding decrypted Offset-0
    decrypted_same C T h =
        let O : List ℕ = Offset-0 K t N in
        ap₂ (λ (g p : List ℕ). valid_if (same (take t g) T) p)
        (ap₂ (λ (s o : List ℕ). Tag K s o A) (open_sum_same O C h) (end_same O C h) ∙ tag_same _ _ A hA)
        (open_text_same O C h)

    decrypt_inputs_same : (C : List ℕ) → Fits m (length (take (length C - t) C)) → OCB-DECRYPT-inputs K t N A C ≡ OCB-DECRYPT-inputs (with K L) t N A C
    unfolding OCB-DECRYPT-inputs Offset-0
    decrypt_inputs_same C h =
        let O : List ℕ = Offset-0 K t N in
        let S : List ℕ = take (length C - t) C in
        ap (inputs K t N A O S) (open_sum_same O S h) ∙ all_inputs_same t N A O S _ h hA

-- ---- the laws

-- a key that agrees is the first with other L values
carry : {X : Type 0} (m : ℕ) (K K' : Key) (F : Key → X) → Agrees m K K'
    → ((L : ℕ → List ℕ) → ((i : ℕ) → i ≤ m → K.L i ≡ L i) → F K ≡ F (with K L)) → F K ≡ F K'
carry m K K' F a changed =
    let e : with K K'.L ≡ with K' K'.L = cc in
    changed K'.L a.table ∙ ap F e

module _ (m : ℕ) (K K' : Key) (a : Agrees m K K') (t : ℕ) (N A : List ℕ) (hA : Fits m (length A)) where
  pub encrypt_agrees : (P : List ℕ) → Fits m (length P) → OCB-ENCRYPT K t N A P ≡ OCB-ENCRYPT K' t N A P
  encrypt_agrees P h = carry m K K' (λ X. OCB-ENCRYPT X t N A P) a (λ L e. encrypt_same K L m e t N A hA P h)

  pub encrypt_inputs_agree : (P : List ℕ) → Fits m (length P) → OCB-ENCRYPT-inputs K t N A P ≡ OCB-ENCRYPT-inputs K' t N A P
  encrypt_inputs_agree P h = carry m K K' (λ X. OCB-ENCRYPT-inputs X t N A P) a (λ L e. encrypt_inputs_same K L m e t N A hA P h)

  -- T is the tag behind the ciphertext
  module _ (C T : List ℕ) (h : Fits m (length C)) (hT : length T ≡ t) where
    pub decrypt_agrees : OCB-DECRYPT K t N A (C ++ T) ≡ OCB-DECRYPT K' t N A (C ++ T)
    decrypt_agrees =
        decrypt_split K N A C T t hT
        ∙ carry m K K' (λ X. decrypted X t N A C T) a (λ L e. decrypted_same K L m e t N A hA C T h)
        ∙ sym (decrypt_split K' N A C T t hT)

    pub decrypt_inputs_agree : OCB-DECRYPT-inputs K t N A (C ++ T) ≡ OCB-DECRYPT-inputs K' t N A (C ++ T)
    decrypt_inputs_agree =
        let front : take (length (C ++ T) - t) (C ++ T) ≡ C = take_at C T (length (C ++ T) - t) (omega (arith, length-append C T)) in
        carry m K K' (λ X. OCB-DECRYPT-inputs X t N A (C ++ T)) a
        (λ L e. decrypt_inputs_same K L m e t N A hA (C ++ T) (subst (λ (S : List ℕ). Fits m (length S)) (sym front) h))
