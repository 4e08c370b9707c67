-- Trailing zeros: a number's count does not depend on how many of its places above are looked at, and is below the number's length in bits.
-- By induction on the places, with the number halved. Assumes nothing.
use mathlib.Core.Path.{◌≡◌, refl, sym, ap, subst}
use Prim.Native.Nat.{ℕ, zero, suc, ◌*◌, ◌/◌, ◌%◌, ◌^◌, ◌<◌, suc-le-suc}
use native.Mathlib.Nat.{pow-suc, zero-lt-suc}
use native.Mathlib.Omega.{arith}
use lib.Count.{count_trailing_zeros, under}
use Rattle.standards.specs.Rfc7253.{ntz}

-- half a number, of which one place fewer is looked at
module _ (k n : ℕ) (below : n < 2 ^ suc k) where
  twice : n < 2 ^ k * 2
  twice = subst (λ (x : ℕ). n < x) (pow-suc 2 k) below

  half_below : n / 2 < 2 ^ k
  half_below = omega (arith, twice)

-- by the lowest bit: where it is 0, the half is not 0
half_positive : (n : ℕ) → 0 < n → n % 2 ≡ 0 → 0 < n / 2
half_positive n p e = omega arith

-- nothing is above 0 and below 2 ^ 0
none : {n : ℕ} → 0 < n → n < 2 ^ 0 → ⊥
none p h = omega arith

under_same : (d s t : ℕ) → (d ≡ 0 → s ≡ t) → under d s ≡ under d t
under_same zero s t h = ap suc (h refl)
under_same (suc d) s t h = refl

-- either count of places is enough
pub any_width : (j k n : ℕ) → 0 < n → n < 2 ^ j → n < 2 ^ k → count_trailing_zeros j n ≡ count_trailing_zeros k n
unfolding count_trailing_zeros
any_width zero k n p hj hk = absurd (none p hj)
any_width (suc j) zero n p hj hk = absurd (none p hk)
any_width (suc j) (suc k) n p hj hk =
    under_same (n % 2) (count_trailing_zeros j (n / 2)) (count_trailing_zeros k (n / 2))
    (λ e. any_width j k (n / 2) (half_positive n p e) (half_below j n hj) (half_below k n hk))

under_below : (d t m : ℕ) → (d ≡ 0 → t < m) → under d t < suc m
under_below zero t m h = suc-le-suc (h refl)
under_below (suc d) t m h = zero-lt-suc m

trailing_below : (m n : ℕ) → 0 < n → n < 2 ^ m → count_trailing_zeros m n < m
unfolding count_trailing_zeros
trailing_below zero n p h = absurd (none p h)
trailing_below (suc m) n p h =
    under_below (n % 2) (count_trailing_zeros m (n / 2)) m (λ e. trailing_below m (n / 2) (half_positive n p e) (half_below m n h))

-- a number is below the power of two that it is the exponent of
below_power : (n : ℕ) → n < 2 ^ n
below_power zero = zero-lt-suc 0
below_power (suc n) = subst (λ (x : ℕ). suc n < x) (sym (pow-suc 2 n)) (let h : n < 2 ^ n = below_power n in omega arith)

-- the count over any width that holds the number
pub ntz_is : (k i : ℕ) → 0 < i → i < 2 ^ k → ntz i ≡ count_trailing_zeros k i
unfolding ntz
ntz_is k i p h = any_width i k i p (below_power i) h

pub ntz_below : (m i : ℕ) → 0 < i → i < 2 ^ m → ntz i < m
ntz_below m i p h = subst (λ (x : ℕ). x < m) (sym (ntz_is m i p h)) (trailing_below m i p h)
