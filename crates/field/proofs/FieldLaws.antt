-- The product of bytes. The product by x is linear, so the product by any byte is; that gives the laws of a commutative ring.
-- Assumes nothing.
use mathlib.Core.Path.{◌≡◌, refl, sym, ap, ap₂, ◌∙◌}
use Prim.Native.Nat.{ℕ, zero, suc, ◌*◌, ◌/◌, ◌%◌, ◌<◌}
use native.Mathlib.Nat.{not-suc-le-zero, le_of_suc-le-suc, add-zero}
use lib.Bits.{bit_xor, differ, xor_shr, xor_mod, xor_block}
use lib.Dec.{lit<}
use lib.Pow.{pow_pos}
use Rattle.standards.specs.Strings.{◌⊕◌}
use Rattle.standards.specs.Fips197.{pick, xtime, times, ◌•◌}
use Rattle.block.proofs.Tests.{equal, less}
use Rattle.block.proofs.XorLaws.{sums, self, zero_left, zero_right, below, bit_lt, odd}

-- ---- the product by x

pick_sum : (x y v : ℕ) → x < 2 → y < 2 → pick (differ x y) v ≡ pick x v ⊕ pick y v
pick_sum zero y v hx hy = sym (zero_left (pick y v))
pick_sum (suc zero) zero v hx hy = sym (zero_right v)
pick_sum (suc zero) (suc zero) v hx hy = sym (self v)
pick_sum (suc zero) (suc (suc y)) v hx hy = absurd (not-suc-le-zero (le_of_suc-le-suc (le_of_suc-le-suc hy)))
pick_sum (suc (suc x)) y v hx hy = absurd (not-suc-le-zero (le_of_suc-le-suc (le_of_suc-le-suc hx)))

top : (a b : ℕ) → (a ⊕ b) / 128 % 2 ≡ differ (a / 128 % 2) (b / 128 % 2)
unfolding ◌⊕◌
top a b = ap (λ (x : ℕ). x % 2) (xor_shr a b 7) ∙ odd (a / 128) (b / 128)

shifted : (a b : ℕ) → (a ⊕ b) * 2 % 256 ≡ a * 2 % 256 ⊕ b * 2 % 256
unfolding ◌⊕◌
shifted a b =
    ap (λ (x : ℕ). x % 256)
    (sym (add-zero (bit_xor a b * 2)) ∙ sym (xor_block 1 a b 0 0 (pow_pos 1) (pow_pos 1))
    ∙ ap₂ bit_xor (add-zero (a * 2)) (add-zero (b * 2)))
    ∙ xor_mod (a * 2) (b * 2) 8

pub xtime_sum : (a b : ℕ) → xtime (a ⊕ b) ≡ xtime a ⊕ xtime b
unfolding xtime
xtime_sum a b =
    ap₂ ◌⊕◌
    (ap (λ (x : ℕ). pick x 0x1b) (top a b) ∙ pick_sum (a / 128 % 2) (b / 128 % 2) 0x1b (bit_lt (a / 128)) (bit_lt (b / 128)))
    (shifted a b)
    ∙ simp sums

xtime_zero : xtime 0 ≡ 0
unfolding xtime ◌⊕◌
xtime_zero = refl

pub xtime_below : (b : ℕ) → b < 256 → xtime b < 256
unfolding xtime ◌⊕◌
xtime_below = less xtime 256 256 tt

-- as the code doubles
pub double_byte : (b : ℕ) → b < 256 → bit_xor (b * 2 % 256) (b / 128 * 0x1b) ≡ xtime b
unfolding xtime ◌⊕◌
double_byte = equal (λ b. bit_xor (b * 2 % 256) (b / 128 * 0x1b)) xtime 256 tt

-- ---- the product by a byte

pick_below : (x b : ℕ) → b < 256 → pick x b < 256
pick_below zero b h = lit< tt
pick_below (suc x) b h = h

times_below : (n a b : ℕ) → b < 256 → times n a b < 256
unfolding times
times_below zero a b h = lit< tt
times_below (suc n) a b h = below 8 _ _ (pick_below (a % 2) b h) (times_below n (a / 2) (xtime b) (xtime_below b h))

pub product_below : (a b : ℕ) → b < 256 → a • b < 256
unfolding ◌•◌
product_below a b h = times_below 8 a b h

-- a map that keeps sums and 0 and goes through the product by x goes through every product
module _ (f : ℕ → ℕ) (f_zero : f 0 ≡ 0) (f_sum : (a b : ℕ) → f (a ⊕ b) ≡ f a ⊕ f b) (f_xtime : (b : ℕ) → f (xtime b) ≡ xtime (f b)) where
  through_pick : (x b : ℕ) → f (pick x b) ≡ pick x (f b)
  through_pick zero b = f_zero
  through_pick (suc x) b = refl

  through : (n a b : ℕ) → f (times n a b) ≡ times n a (f b)
  unfolding times
  through zero a b = f_zero
  through (suc n) a b =
      f_sum (pick (a % 2) b) (times n (a / 2) (xtime b))
      ∙ ap₂ ◌⊕◌ (through_pick (a % 2) b) (through n (a / 2) (xtime b) ∙ ap (times n (a / 2)) (f_xtime b))

times_zero : (n a : ℕ) → times n a 0 ≡ 0
unfolding times
times_zero zero a = refl
times_zero (suc n) a =
    ap₂ ◌⊕◌ (none (a % 2)) (ap (times n (a / 2)) xtime_zero ∙ times_zero n (a / 2)) ∙ zero_left 0
  where
    none : (x : ℕ) → pick x 0 ≡ 0
    none zero = refl
    none (suc x) = refl

times_sum : (n a b c : ℕ) → times n a (b ⊕ c) ≡ times n a b ⊕ times n a c
unfolding times
times_sum zero a b c = sym (zero_left 0)
times_sum (suc n) a b c =
    ap₂ ◌⊕◌ (each (a % 2)) (ap (times n (a / 2)) (xtime_sum b c) ∙ times_sum n (a / 2) (xtime b) (xtime c))
    ∙ simp sums
  where
    each : (x : ℕ) → pick x (b ⊕ c) ≡ pick x b ⊕ pick x c
    each zero = sym (zero_left 0)
    each (suc x) = refl

times_xtime : (n a b : ℕ) → times n a (xtime b) ≡ xtime (times n a b)
times_xtime n a b = sym (through xtime xtime_zero xtime_sum (λ b. refl) n a b)

pub product_zero : (a : ℕ) → a • 0 ≡ 0
unfolding ◌•◌
product_zero = times_zero 8

pub product_left_comm : (a b c : ℕ) → a • (b • c) ≡ b • (a • c)
unfolding ◌•◌
product_left_comm a b c = through (times 8 a) (times_zero 8 a) (times_sum 8 a) (times_xtime 8 a) 8 b c

pub product_one : (a : ℕ) → a < 256 → a • 1 ≡ a
unfolding ◌•◌ times xtime ◌⊕◌
product_one = equal (λ a. a • 1) (λ a. a) 256 tt

pub product_comm : (a b : ℕ) → a < 256 → b < 256 → a • b ≡ b • a
product_comm a b ha hb = ap (λ (x : ℕ). a • x) (sym (product_one b hb)) ∙ product_left_comm a b 1 ∙ ap (λ (x : ℕ). b • x) (product_one a ha)

-- ---- the products of the two matrices, by repeated products by x

pub by_01 : (b : ℕ) → 0x01 • b ≡ b
unfolding ◌•◌ times
by_01 b = simp (zero_left, zero_right)

pub by_02 : (b : ℕ) → 0x02 • b ≡ xtime b
unfolding ◌•◌ times
by_02 b = simp (zero_left, zero_right)

pub by_03 : (b : ℕ) → 0x03 • b ≡ b ⊕ xtime b
unfolding ◌•◌ times
by_03 b = simp (zero_left, zero_right)

pub by_09 : (b : ℕ) → 0x09 • b ≡ b ⊕ xtime (xtime (xtime b))
unfolding ◌•◌ times
by_09 b = simp (zero_left, zero_right)

pub by_0b : (b : ℕ) → 0x0b • b ≡ b ⊕ (xtime b ⊕ xtime (xtime (xtime b)))
unfolding ◌•◌ times
by_0b b = simp (zero_left, zero_right)

pub by_0d : (b : ℕ) → 0x0d • b ≡ b ⊕ (xtime (xtime b) ⊕ xtime (xtime (xtime b)))
unfolding ◌•◌ times
by_0d b = simp (zero_left, zero_right)

pub by_0e : (b : ℕ) → 0x0e • b ≡ xtime b ⊕ (xtime (xtime b) ⊕ xtime (xtime (xtime b)))
unfolding ◌•◌ times
by_0e b = simp (zero_left, zero_right)

pub ruleset products = (by_01, by_02, by_03, by_09, by_0b, by_0d, by_0e, xtime_sum)
