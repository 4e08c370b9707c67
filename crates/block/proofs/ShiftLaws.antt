-- Two words as one number, shifted: what its words are then. Laws of any two widths. Assumes nothing.
use mathlib.Core.Path.{◌≡◌, sym, ap, ap₂, ◌∙◌}
use Prim.Native.Nat.{ℕ, ◌+◌, ◌*◌, ◌/◌, ◌%◌, ◌^◌, ◌<◌}
use native.Mathlib.Nat.{add_comm, add-zero, add-mul, mul_assoc, mul_comm, mul-mod_left, add-mul-div_right, mul-add-mod_self_right}
use lib.Bits.{bit_or, or_shifted}
use lib.Pow.{pow_pos, pow-add, high, low, mod-pow-add, shr_lt, shr-shr, shl-shr}

-- ---- a word's worth of bits from two words: hi, shifted to make room for the top bits of lo

-- a word has c + bottom bits, of which the top bottom ones of lo are taken
module _ (hi lo bottom c : ℕ) (fits : lo < 2 ^ (bottom + c)) where
  joined : (hi * 2 ^ (c + bottom) + lo) / 2 ^ c ≡ hi * 2 ^ bottom + lo / 2 ^ c
  joined =
      ap (λ (x : ℕ). (hi * x + lo) / 2 ^ c) (ap (λ (x : ℕ). 2 ^ x) (add_comm c bottom) ∙ pow-add 2 bottom c)
      ∙ ap (λ (x : ℕ). (x + lo) / 2 ^ c) (sym (mul_assoc hi (2 ^ bottom) (2 ^ c)))
      ∙ ap (λ (x : ℕ). x / 2 ^ c) (add_comm (hi * 2 ^ bottom * 2 ^ c) lo)
      ∙ add-mul-div_right lo (hi * 2 ^ bottom) (pow_pos c)
      ∙ add_comm (lo / 2 ^ c) (hi * 2 ^ bottom)

  pub shifted_or : (hi * 2 ^ (c + bottom) + lo) / 2 ^ c % 2 ^ (c + bottom) ≡ bit_or (hi * 2 ^ bottom % 2 ^ (c + bottom)) (lo / 2 ^ c)
  shifted_or =
      let q : lo / 2 ^ c < 2 ^ bottom = shr_lt bottom c fits in
      ap (λ (x : ℕ). x % 2 ^ (c + bottom)) joined
      ∙ mod-pow-add (hi * 2 ^ bottom + lo / 2 ^ c) c bottom
      ∙ ap₂ (λ (x y : ℕ). x % 2 ^ c * 2 ^ bottom + y) (high hi bottom q) (low hi bottom q)
      ∙ sym (or_shifted (hi % 2 ^ c) bottom (lo / 2 ^ c) q)
      ∙ ap (λ (x : ℕ). bit_or x (lo / 2 ^ c))
      (sym (mod-pow-add (hi * 2 ^ bottom) c bottom
      ∙ ap₂ (λ (x y : ℕ). x % 2 ^ c * 2 ^ bottom + y) (shl-shr hi bottom) (mul-mod_left hi (2 ^ bottom))
      ∙ add-zero (hi % 2 ^ c * 2 ^ bottom)))

-- ---- the other word

-- a word above does not reach a word's low bits
pub above : (w a b k : ℕ) → (a * 2 ^ w + b) * 2 ^ k % 2 ^ w ≡ b * 2 ^ k % 2 ^ w
above w a b k =
    ap (λ (x : ℕ). x % 2 ^ w)
    (add-mul (a * 2 ^ w) b (2 ^ k)
    ∙ ap (λ (x : ℕ). x + b * 2 ^ k)
    (mul_assoc a (2 ^ w) (2 ^ k) ∙ ap (λ (x : ℕ). a * x) (mul_comm (2 ^ w) (2 ^ k)) ∙ sym (mul_assoc a (2 ^ k) (2 ^ w))))
    ∙ mul-add-mod_self_right (a * 2 ^ k) (2 ^ w) (b * 2 ^ k)

-- a word below does not reach the bits above it
pub below : (w u c k : ℕ) → c < 2 ^ w → (u * 2 ^ w + c) / 2 ^ k / 2 ^ w ≡ u / 2 ^ k
below w u c k h =
    shr-shr (u * 2 ^ w + c) k w
    ∙ ap (λ (x : ℕ). (u * 2 ^ w + c) / 2 ^ x) (add_comm k w)
    ∙ sym (shr-shr (u * 2 ^ w + c) w k)
    ∙ ap (λ (x : ℕ). x / 2 ^ k) (high u w h)
