-- Doubling on two words: each is shifted left by one bit, the high one takes the low one's top bit, and 87 (hex) is xored into the low one for the bit
-- that the high one loses. The shifts are laws of any width; the number 64 comes in at the end. Assumes nothing.
use mathlib.Core.Path.{◌≡◌, sym, ap, ap₂, ◌∙◌, subst}
use mathlib.Core.List.{List, ◌++◌}
use Prim.Native.Nat.{ℕ, ◌+◌, ◌*◌, ◌/◌, ◌%◌, ◌^◌, ◌<◌}
use native.Mathlib.Nat.{add_comm, div-eq_of_lt, mod-eq_of_lt}
use native.Mathlib.Omega.{arith}
use lib.Bits.{bit_or, xor_shr, xor_mod}
use lib.Dec.{lit<}
use lib.Pow.{shr-shr, shl-shr, field, mod-mod-pow, high, low}
use Rattle.standards.specs.Strings.{◌⊕◌, num, to_bytes}
use Rattle.standards.specs.Rfc7253.{double}
use Rattle.block.specs.Halves.{block_of}
use Rattle.block.specs.declared.Halves.{Halves}
use Rattle.block.proofs.XorLaws.{zero_right}
use Rattle.block.proofs.NumberLaws.{number_append, number_digits, digits_length, digits_append, digits_low}
use Rattle.block.proofs.ShiftLaws.{shifted_or, above, below}

-- ---- twice the number of two words of c + 1 bits

module _ (c hi lo : ℕ) (fits : lo < 2 ^ (c + 1)) where
  abbrev words : ℕ
  words = hi * 2 ^ (c + 1) + lo

  shifted : words * 2 / 2 ^ (c + 1) ≡ words / 2 ^ c
  shifted =
      ap (λ (k : ℕ). words * 2 / 2 ^ k) (add_comm c 1) ∙ sym (shr-shr (words * 2) 1 c) ∙ ap (λ (x : ℕ). x / 2 ^ c) (shl-shr words 1)

  high_word : words * 2 % 2 ^ (c + 1 + (c + 1)) / 2 ^ (c + 1) ≡ bit_or (hi * 2 % 2 ^ (c + 1)) (lo / 2 ^ c)
  high_word =
      field (words * 2) (c + 1) (c + 1)
      ∙ ap (λ (x : ℕ). x % 2 ^ (c + 1)) shifted
      ∙ shifted_or hi lo 1 c (subst (λ (k : ℕ). lo < 2 ^ k) (add_comm c 1) fits)

  low_word : words * 2 % 2 ^ (c + 1 + (c + 1)) % 2 ^ (c + 1) ≡ lo * 2 % 2 ^ (c + 1)
  low_word = mod-mod-pow (words * 2) (c + 1) (c + 1) ∙ above (c + 1) hi lo 1

  lost_bit : words * 2 / 2 ^ (c + 1 + (c + 1)) ≡ hi / 2 ^ c
  lost_bit = sym (shr-shr (words * 2) (c + 1) (c + 1)) ∙ ap (λ (x : ℕ). x / 2 ^ (c + 1)) shifted ∙ below (c + 1) hi lo c fits

-- ---- sixteen bytes and two words

words_number : (hi lo : ℕ) → hi < 2 ^ 64 → lo < 2 ^ 64 → num (to_bytes 8 hi ++ to_bytes 8 lo) ≡ hi * 2 ^ 64 + lo
words_number hi lo hh hl =
    number_append 256 (to_bytes 8 hi) (to_bytes 8 lo)
    ∙ ap (λ (k : ℕ). num (to_bytes 8 hi) * 256 ^ k + num (to_bytes 8 lo)) (digits_length 256 8 lo)
    ∙ ap₂ (λ (x y : ℕ). x * 2 ^ 64 + y)
    (number_digits 256 (lit< tt) 8 hi ∙ mod-eq_of_lt hh) (number_digits 256 (lit< tt) 8 lo ∙ mod-eq_of_lt hl)

-- words are fixed by the block that they are
pub halves_single : (x y : Halves) → x.high < 2 ^ 64 → x.low < 2 ^ 64 → y.high < 2 ^ 64 → y.low < 2 ^ 64 → block_of x ≡ block_of y → x ≡ y
halves_single x y xh xl yh yl e =
    let n : x.high * 2 ^ 64 + x.low ≡ y.high * 2 ^ 64 + y.low =
    sym (words_number x.high x.low xh xl) ∙ ap num e ∙ words_number y.high y.low yh yl in
    ap₂ (λ (h l : ℕ). record { high = h; low = l })
    (sym (high x.high 64 xl) ∙ ap (λ (k : ℕ). k / 2 ^ 64) n ∙ high y.high 64 yl)
    (sym (low x.high 64 xl) ∙ ap (λ (k : ℕ). k % 2 ^ 64) n ∙ low y.high 64 yl)

-- a number of one word, xored into a number of two, meets the low word only
low_xored : (n d : ℕ) → d < 2 ^ 64 → to_bytes 16 (n ⊕ d) ≡ to_bytes 8 (n / 2 ^ 64) ++ to_bytes 8 (n % 2 ^ 64 ⊕ d)
unfolding ◌⊕◌
low_xored n d h =
    digits_append 256 8 8 (n ⊕ d)
    ∙ ap₂ (λ (S T : List ℕ). S ++ T)
    (ap (to_bytes 8) (xor_shr n d 64 ∙ ap (λ (x : ℕ). n / 2 ^ 64 ⊕ x) (div-eq_of_lt h) ∙ zero_right (n / 2 ^ 64)))
    (sym (digits_low 256 (lit< tt) 8 (n ⊕ d)) ∙ ap (to_bytes 8) (xor_mod n d 64 ∙ ap (λ (x : ℕ). n % 2 ^ 64 ⊕ x) (mod-eq_of_lt h)))

-- ---- RFC 7253's doubling, of the block that two words are

pub double_words : (hi lo : ℕ) → hi < 2 ^ 64 → lo < 2 ^ 64 → double (to_bytes 8 hi ++ to_bytes 8 lo)
    ≡ to_bytes 8 (bit_or (hi * 2 % 2 ^ 64) (lo / 2 ^ 63)) ++ to_bytes 8 (lo * 2 % 2 ^ 64 ⊕ hi / 2 ^ 63 * 0x87)
unfolding double
double_words hi lo hh hl =
    let n : ℕ = hi * 2 ^ 64 + lo in
    let lost : ℕ = hi / 2 ^ 63 * 0x87 in
    ap (λ (x : ℕ). to_bytes 16 (x * 2 % 2 ^ 128 ⊕ x * 2 / 2 ^ 128 * 0x87)) (words_number hi lo hh hl)
    ∙ ap (λ (x : ℕ). to_bytes 16 (n * 2 % 2 ^ 128 ⊕ x * 0x87)) (lost_bit 63 hi lo hl)
    ∙ low_xored (n * 2 % 2 ^ 128) lost (omega arith)
    ∙ ap₂ (λ (x y : ℕ). to_bytes 8 x ++ to_bytes 8 (y ⊕ lost)) (high_word 63 hi lo hl) (low_word 63 hi lo hl)
