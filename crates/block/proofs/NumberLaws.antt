-- Numbers as strings of digits, the highest first, to any base: the laws of `digits` and `number`.
-- Each goes by induction on the string or on the count of digits. Assumes nothing.
use mathlib.Core.Path.{◌≡◌, refl, sym, ap, ap₂, ◌∙◌, subst}
use mathlib.Core.List.{List, [], ◌∷◌, ◌++◌, append_assoc, append-nil}
use Prim.Native.Nat.{ℕ, zero, suc, ◌+◌, ◌*◌, ◌/◌, ◌%◌, ◌^◌, ◌<◌}
use native.Mathlib.Nat.{add-mul, add-suc, add-zero, zero-add, zero-mul, mul_assoc, mul-one, one-mul, pow-zero, pow-suc, pow-succ', mod-lt, mod-one, mod-eq_of_lt, div-div-eq-div-mul, div-one, one-le-pow, le_of_eq}
use native.Mathlib.Omega.{arith}
use native.Mathlib.Numerals.{add-one, one-add}
use lib.ListN.{length, get_or, length-append}
use lib.Arith.{digits_lt, digits_div, digits_mod, mod-mul}
use lib.Pow.{pow-add}
use Rattle.standards.specs.Strings.{digits, number}

-- each number of the string is a digit; to base 256 this is `Bytes`
abbrev pub Digits : ℕ → List ℕ → Type 0
Digits base S = (i : ℕ) → get_or S i 0 < base

module _ (base : ℕ) where
  pub below_append : (S T : List ℕ) → Digits base S → Digits base T → Digits base (S ++ T)
  below_append [] T hS hT i = hT i
  below_append (x ∷ S) T hS hT zero = hS 0
  below_append (x ∷ S) T hS hT (suc i) = below_append S T (λ j. hS (suc j)) hT i

  -- ---- the number of a string

  pub number_append : (S T : List ℕ) → number base (S ++ T) ≡ number base S * base ^ length T + number base T
  unfolding number
  number_append [] T = sym (zero-add (number base T)) ∙ ap (λ (x : ℕ). x + number base T) (sym (zero-mul (base ^ length T)))
  number_append (x ∷ S) T =
      let high : x * base ^ length (S ++ T) ≡ x * base ^ length S * base ^ length T =
      ap (λ (k : ℕ). x * base ^ k) (length-append S T)
      ∙ ap (λ (p : ℕ). x * p) (pow-add base (length S) (length T))
      ∙ sym (mul_assoc x (base ^ length S) (base ^ length T)) in
      omega (arith, number_append S T, add-mul (x * base ^ length S) (number base S) (base ^ length T))

  pub number_one : (x : ℕ) → number base (x ∷ []) ≡ x
  unfolding number
  number_one x = add-zero (x * base ^ 0) ∙ ap (λ (p : ℕ). x * p) (pow-zero base) ∙ mul-one x

  -- one digit more at the end
  pub number-last : (S : List ℕ) (x : ℕ) → number base (S ++ (x ∷ [])) ≡ number base S * base + x
  number-last S x =
      number_append S (x ∷ [])
      ∙ ap₂ (λ (p q : ℕ). number base S * p + q) (pow-suc base 0 ∙ ap (λ (p : ℕ). p * base) (pow-zero base) ∙ one-mul base) (number_one x)

  pub number_below : (S : List ℕ) → Digits base S → number base S < base ^ length S
  unfolding number
  number_below [] h = le_of_eq (sym (pow-zero base))
  number_below (x ∷ S) h =
      subst (λ (z : ℕ). x * base ^ length S + number base S < z) (sym (pow-succ' base (length S)))
      (digits_lt (h 0) (number_below S (λ i. h (suc i))))

  -- ---- the digits of a number

  pub digits_length : (k n : ℕ) → length (digits base k n) ≡ k
  unfolding digits
  digits_length zero n = refl
  digits_length (suc k) n =
      length-append (digits base k (n / base)) (n % base ∷ [])
      ∙ ap (λ (x : ℕ). x + 1) (digits_length k (n / base))
      ∙ add-one k

  -- the high digits, then the low ones
  pub digits_append : (j k n : ℕ) → digits base (j + k) n ≡ digits base j (n / base ^ k) ++ digits base k n
  unfolding digits
  digits_append j zero n =
      ap (λ (x : ℕ). digits base x n) (add-zero j)
      ∙ sym (append-nil (digits base j n))
      ∙ ap (λ (x : ℕ). digits base j x ++ []) (sym (ap (λ (p : ℕ). n / p) (pow-zero base) ∙ div-one n))
  digits_append j (suc k) n =
      ap (λ (x : ℕ). digits base x n) (add-suc j k)
      ∙ ap (λ (S : List ℕ). S ++ (n % base ∷ [])) (digits_append j k (n / base))
      ∙ append_assoc (digits base j (n / base / base ^ k)) (digits base k (n / base)) (n % base ∷ [])
      ∙ ap (λ (x : ℕ). digits base j x ++ (digits base k (n / base) ++ (n % base ∷ [])))
      (div-div-eq-div-mul n base (base ^ k) ∙ ap (λ (x : ℕ). n / x) (sym (pow-succ' base k)))

  module _ (positive : 0 < base) where
    digit_below : (n : ℕ) → n % base < base
    digit_below n = mod-lt n positive

    -- the lowest of the k + 1 digits that are kept, and those above it
    pub mod_step : (k n : ℕ) → n % base ^ suc k ≡ n / base % base ^ k * base + n % base
    mod_step k n = ap (λ (x : ℕ). n % x) (pow-suc base k) ∙ mod-mul n (one-le-pow k base positive) positive

    pub digits_below : (k n : ℕ) → Digits base (digits base k n)
    unfolding digits
    digits_below zero n i = positive
    digits_below (suc k) n i = below_append (digits base k (n / base)) (n % base ∷ []) (digits_below k (n / base)) last i
      where
        last : Digits base (n % base ∷ [])
        last zero = digit_below n
        last (suc j) = positive

    -- only the low digits count
    pub digits_low : (k n : ℕ) → digits base k (n % base ^ k) ≡ digits base k n
    unfolding digits
    digits_low zero n = refl
    digits_low (suc k) n =
        ap₂ (λ (S : List ℕ) (x : ℕ). S ++ (x ∷ []))
        (ap (digits base k) (ap (λ (x : ℕ). x / base) (mod_step k n) ∙ digits_div (n / base % base ^ k) (digit_below n)) ∙ digits_low k (n / base))
        (ap (λ (x : ℕ). x % base) (mod_step k n) ∙ digits_mod (n / base % base ^ k) (digit_below n))

    -- ---- there and back

    pub number_digits : (k n : ℕ) → number base (digits base k n) ≡ n % base ^ k
    unfolding digits number
    number_digits zero n = sym (ap (λ (x : ℕ). n % x) (pow-zero base) ∙ mod-one n)
    number_digits (suc k) n =
        number-last (digits base k (n / base)) (n % base)
        ∙ ap (λ (x : ℕ). x * base + n % base) (number_digits k (n / base))
        ∙ sym (mod_step k n)

    pub digits_number : (S : List ℕ) → Digits base S → digits base (length S) (number base S) ≡ S
    unfolding digits number
    digits_number [] h = refl
    digits_number (x ∷ S) h =
        let k = length S in
        let n : ℕ = number base S in
        let low : n < base ^ k = number_below S (λ i. h (suc i)) in
        ap (λ (j : ℕ). digits base j (x * base ^ k + n)) (sym (one-add k))
        ∙ digits_append 1 k (x * base ^ k + n)
        ∙ ap₂ (λ (y : ℕ) (T : List ℕ). y ∷ T)
        (ap (λ (q : ℕ). q % base) (digits_div x low) ∙ mod-eq_of_lt (h 0))
        (sym (digits_low k (x * base ^ k + n)) ∙ ap (digits base k) (digits_mod x low) ∙ digits_number S (λ i. h (suc i)))
