-- The first offset on words of 64 bits: the high word of what is cut depends on Stretch's first two words, the low one on its last two.
-- Assumes nothing.
use mathlib.Core.Path.{◌≡◌, sym, ap, ap₂, ◌∙◌, subst}
use mathlib.Core.List.{List, ◌++◌}
use Prim.Native.Nat.{ℕ, ◌+◌, ◌-◌, ◌*◌, ◌/◌, ◌%◌, ◌^◌, ◌<◌, ◌≤◌}
use native.Mathlib.Nat.{mod-eq_of_lt}
use native.Mathlib.Omega.{arith}
use lib.Bits.{bit_or}
use lib.Dec.{lit<}
use lib.ListN.{length, take, drop, length-drop}
use lib.Pow.{high, field, mod-mod-pow}
use lib.Seq.{take_all, take-add, length-take-le}
use Rattle.standards.specs.Strings.{num, to_bytes, Bytes}
use Rattle.standards.specs.InBytes.{cut_of}
use Rattle.block.proofs.StringLaws.{bytes_take, bytes_drop}
use Rattle.block.proofs.ShiftLaws.{shifted_or, above, below}
use Rattle.block.proofs.NumberLaws.{number_append, number_below, digits_append, digits_low}
use Rattle.ocb_variables.specs.Nonce.{bits_from}

-- ---- a word's worth of bits from two words

pub bits_from_shifts : (hi lo bottom : ℕ) → bottom ≤ 64 → lo < 2 ^ 64
    → bits_from hi lo bottom ≡ bit_or (hi * 2 ^ bottom % 2 ^ 64) (lo / 2 ^ (64 - bottom))
bits_from_shifts hi lo bottom h fits =
    let e : 64 ≡ (64 - bottom) + bottom = omega arith in
    let e' : 64 ≡ bottom + (64 - bottom) = omega arith in
    ap (λ (w : ℕ). (hi * 2 ^ w + lo) / 2 ^ (64 - bottom) % 2 ^ w) e
    ∙ shifted_or hi lo bottom (64 - bottom) (subst (λ (w : ℕ). lo < 2 ^ w) e' fits)
    ∙ ap (λ (w : ℕ). bit_or (hi * 2 ^ bottom % 2 ^ w) (lo / 2 ^ (64 - bottom))) (sym e)

pub bits_from_none : (hi lo : ℕ) → hi < 2 ^ 64 → lo < 2 ^ 64 → bits_from hi lo 0 ≡ hi
bits_from_none hi lo hh hl = ap (λ (x : ℕ). x % 2 ^ 64) (high hi 64 hl) ∙ mod-eq_of_lt hh

-- ---- three words

-- three words, shifted so that the 128 bits behind the first bottom ones are the lowest
abbrev shifted : ℕ → ℕ → ℕ → ℕ → ℕ
shifted a b c bottom = ((a * 2 ^ 64 + b) * 2 ^ 64 + c) / 2 ^ (64 - bottom)

module _ (a b c bottom : ℕ) (h : bottom ≤ 64) (hc : c < 2 ^ 64) where
  high_word : shifted a b c bottom % 2 ^ (64 + 64) / 2 ^ 64 ≡ bits_from a b bottom
  high_word = field (shifted a b c bottom) 64 64 ∙ ap (λ (x : ℕ). x % 2 ^ 64) (below 64 (a * 2 ^ 64 + b) c (64 - bottom) hc)

  low_word : shifted a b c bottom % 2 ^ (64 + 64) % 2 ^ 64 ≡ bits_from b c bottom
  low_word =
      mod-mod-pow (shifted a b c bottom) 64 64
      ∙ bits_from_shifts (a * 2 ^ 64 + b) c bottom h hc
      ∙ ap (λ (x : ℕ). bit_or x (c / 2 ^ (64 - bottom))) (above 64 a b bottom)
      ∙ sym (bits_from_shifts b c bottom h hc)

  cut_words : to_bytes 16 (shifted a b c bottom % 2 ^ 128) ≡ to_bytes 8 (bits_from a b bottom) ++ to_bytes 8 (bits_from b c bottom)
  cut_words =
      digits_append 256 8 8 (shifted a b c bottom % 2 ^ 128)
      ∙ ap₂ (λ (S T : List ℕ). S ++ T)
      (ap (to_bytes 8) high_word)
      (sym (digits_low 256 (lit< tt) 8 (shifted a b c bottom % 2 ^ 128)) ∙ ap (to_bytes 8) low_word)

-- ---- Stretch's three words

-- the word at place n of a string
abbrev word : List ℕ → ℕ → ℕ
word S n = num (take 8 (drop n S))

word_length : (S : List ℕ) (n : ℕ) → n + 8 ≤ length S → length (take 8 (drop n S)) ≡ 8
word_length S n h = length-take-le 8 (drop n S) (omega (arith, length-drop n S))

word_below : (S : List ℕ) (n : ℕ) → Bytes S → n + 8 ≤ length S → word S n < 2 ^ 64
word_below S n hS h =
    subst (λ (k : ℕ). word S n < 256 ^ k) (word_length S n h) (number_below 256 (take 8 (drop n S)) (bytes_take 8 (drop n S) (bytes_drop n S hS)))

-- one word more
word_more : (S : List ℕ) (n : ℕ) → n + 8 ≤ length S → num (take (n + 8) S) ≡ num (take n S) * 2 ^ 64 + word S n
word_more S n h =
    ap num (take-add n 8 S)
    ∙ number_append 256 (take n S) (take 8 (drop n S))
    ∙ ap (λ (k : ℕ). num (take n S) * 256 ^ k + word S n) (word_length S n h)

three_words : (S : List ℕ) → length S ≡ 24 → num S ≡ (word S 0 * 2 ^ 64 + word S 8) * 2 ^ 64 + word S 16
three_words S h =
    ap num (sym (take_all 24 S (omega arith)))
    ∙ word_more S 16 (omega arith)
    ∙ ap (λ (x : ℕ). x * 2 ^ 64 + word S 16) (word_more S 8 (omega arith))

-- the offset, from what the code makes one after the other: the words a, b and c, and the words p and q cut from them
pub cut_made : {a b c p q : ℕ} (S : List ℕ) (bottom : ℕ) → length S ≡ 24 → Bytes S → bottom < 64
    → a ≡ word S 0 → b ≡ word S 8 → c ≡ word S 16 → p ≡ bits_from a b bottom → q ≡ bits_from b c bottom
    → to_bytes 8 p ++ to_bytes 8 q ≡ cut_of S bottom
unfolding cut_of
cut_made {a} {b} {c} S bottom h hS hb ea eb ec ep eq =
    let c_fits : c < 2 ^ 64 = subst (λ (n : ℕ). n < 2 ^ 64) (sym ec) (word_below S 16 hS (omega arith)) in
    let whole : (a * 2 ^ 64 + b) * 2 ^ 64 + c ≡ num S = cc (three_words S h) in
    ap₂ (λ (x y : ℕ). to_bytes 8 x ++ to_bytes 8 y) ep eq
    ∙ sym (cut_words a b c bottom (omega arith) c_fits)
    ∙ ap (λ (n : ℕ). to_bytes 16 (n / 2 ^ (64 - bottom) % 2 ^ 128)) whole
