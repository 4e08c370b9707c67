-- How many blocks RFC 7253's procedures hand to the cipher: one for each block begun of the text and of the associated data, and two.
-- Assumes nothing.
use mathlib.Core.Path.{◌≡◌, refl, ap, ◌∙◌}
use mathlib.Core.List.{List, [], ◌∷◌, ◌++◌}
use Prim.Native.Nat.{ℕ, zero, suc, ◌+◌, ◌-◌, ◌<◌}
use native.Mathlib.Numerals.{add-one}
use native.Mathlib.Omega.{arith}
use lib.ListN.{length, length-append}
use lib.Seq.{take_at}
use Rattle.standards.specs.Strings.{zeros}
use Rattle.standards.specs.Rfc7253.{Key, Offset-0, wholes, rest, Offset, Inputs, last_input, last_hash_input, HASH-inputs, seal_sum, open_sum, inputs, OCB-ENCRYPT-inputs, OCB-DECRYPT-inputs}
use Rattle.ocb_numbers.specs.Numbers.{blocks, count}
use Rattle.ocb_laws.proofs.Sizes.{rest_length, rest_short}

whole_count : (K : Key) (O S : List ℕ) (i : ℕ) → length (Inputs K O S i) ≡ i
unfolding Inputs
whole_count K O S zero = refl
whole_count K O S (suc i) = length-append (Inputs K O S i) _ ∙ ap (λ (n : ℕ). n + 1) (whole_count K O S i) ∙ add-one i

-- whole blocks and a last part: F gives the last part's one input, where there is a part
begun : (K : Key) (O S : List ℕ) (F : List ℕ → List (List ℕ)) → length (F []) ≡ 0 → ((x : ℕ) (T : List ℕ) → length (F (x ∷ T)) ≡ 1)
    → length (Inputs K O S (wholes S)) + length (F (rest S)) ≡ blocks (length S)
unfolding wholes
begun K O S F none one = omega (arith, whole_count K O S (wholes S), rest_length S, last (rest S) (rest_short S))
  where
    last : (T : List ℕ) → length T < 16 → length (F T) ≡ blocks (length T)
    last [] h = none
    last (x ∷ T) h = one x T ∙ omega arith

inputs_count : (K : Key) (t : ℕ) (N A O S s : List ℕ) → length (inputs K t N A O S s) ≡ count (length A) (length S)
unfolding inputs HASH-inputs last_input last_hash_input
inputs_count K t N A O S s =
    simp length-append
    (omega (
      arith,
      begun K O S (last_input K (Offset K O (wholes S))) refl (λ x T. refl),
      begun K (zeros 16) A (last_hash_input K (Offset K (zeros 16) (wholes A))) refl (λ x T. refl),
    ))

pub encrypt_calls : (K : Key) (t : ℕ) (N A P : List ℕ) → length (OCB-ENCRYPT-inputs K t N A P) ≡ count (length A) (length P)
unfolding OCB-ENCRYPT-inputs
encrypt_calls K t N A P = inputs_count K t N A (Offset-0 K t N) P (seal_sum K (Offset-0 K t N) P)

pub decrypt_calls : (K : Key) (t : ℕ) (N A C T : List ℕ) → length T ≡ t
    → length (OCB-DECRYPT-inputs K t N A (C ++ T)) ≡ count (length A) (length C)
unfolding OCB-DECRYPT-inputs
decrypt_calls K t N A C T h =
    let O : List ℕ = Offset-0 K t N in
    ap (λ (S : List ℕ). length (inputs K t N A O S (open_sum K O S))) (take_at C T (length (C ++ T) - t) (omega (arith, length-append C T)))
    ∙ inputs_count K t N A O C (open_sum K O C)
