-- MixColumns and its inverse: what the code computes, and that each takes the other back.
-- Assumes nothing.
use mathlib.Core.Path.{◌≡◌}
use Prim.Native.Nat.{ℕ}
use Rattle.standards.specs.Strings.{◌⊕◌}
use Rattle.standards.specs.Fips197.{xtime}
use Rattle.block.proofs.XorLaws.{sums}
use Rattle.field.proofs.FieldLaws.{products}
use Rattle.standards.specs.Fips197.{row}

pub mix_row : (a b c d x y : ℕ) → x ≡ xtime a → y ≡ xtime b → x ⊕ y ⊕ b ⊕ c ⊕ d ≡ row 0x02 0x03 0x01 0x01 a b c d
unfolding row
mix_row a b c d x y p q = simp (p, q, products, sums)

pub inv_mix_row : (a b c d x₁ x₂ x y₁ y z : ℕ)
    → x₁ ≡ xtime (a ⊕ b ⊕ c ⊕ d) → x₂ ≡ xtime x₁ → x ≡ xtime x₂ → y₁ ≡ xtime (a ⊕ c) → y ≡ xtime y₁ → z ≡ xtime (a ⊕ b)
    → x ⊕ y ⊕ z ⊕ b ⊕ c ⊕ d ≡ row 0x0e 0x0b 0x0d 0x09 a b c d
unfolding row
inv_mix_row a b c d x₁ x₂ x y₁ y z p₁ p₂ p q₁ q r = simp (p, p₂, p₁, q, q₁, r, products, sums)

-- a row of either matrix on a column that the other has mixed
pub inv_mix_mix : (a b c d : ℕ)
    → row 0x0e 0x0b 0x0d 0x09 (row 0x02 0x03 0x01 0x01 a b c d) (row 0x02 0x03 0x01 0x01 b c d a)
    (row 0x02 0x03 0x01 0x01 c d a b) (row 0x02 0x03 0x01 0x01 d a b c) ≡ a
unfolding row
inv_mix_mix a b c d = simp (products, sums)

pub mix_inv_mix : (a b c d : ℕ)
    → row 0x02 0x03 0x01 0x01 (row 0x0e 0x0b 0x0d 0x09 a b c d) (row 0x0e 0x0b 0x0d 0x09 b c d a)
    (row 0x0e 0x0b 0x0d 0x09 c d a b) (row 0x0e 0x0b 0x0d 0x09 d a b c) ≡ a
unfolding row
mix_inv_mix a b c d = simp (products, sums)
