-- Which places of the table are asked for: those of the blocks of a string that is within m, and of no others. Assumes nothing.
use mathlib.Core.Path.{◌≡◌}
use mathlib.Core.List.{List}
use Prim.Native.Nat.{ℕ, ◌+◌, ◌*◌, ◌/◌, ◌^◌, ◌<◌, ◌≤◌}
use native.Mathlib.Nat.{le_trans}
use native.Mathlib.Omega.{arith}
use lib.ListN.{length}
use lib.Pow.{pow-add, pow_mono}
use Rattle.sizes.specs.Sizes.{m_most, table_bytes}
use Rattle.standards.specs.Rfc7253.{ntz, wholes}
use Rattle.block.proofs.NtzLaws.{ntz_below}
use Rattle.ocb_numbers.specs.Numbers.{Fits, InTable}

-- the L values of the first n blocks stand in the table
abbrev pub Reach : ℕ → ℕ → Type 0
Reach m n = (i : ℕ) → 0 < i → i ≤ n → InTable m i

-- those of a string within m do
pub fits_reach : {m n : ℕ} → Fits m n → Reach m (n / 16)
fits_reach {m} {n} f i p h = let e : 2 ^ (m + 4) ≡ 2 ^ m * 16 = pow-add 2 m 4 in record { filled = f.filled; counted = p; early = omega (arith, f.short) }

pub wholes_reach : (m : ℕ) (S : List ℕ) → Fits m (length S) → Reach m (wholes S)
unfolding wholes
wholes_reach m S f = fits_reach f

-- the place asked for is filled
pub in_place : {m i : ℕ} → InTable m i → ntz i ≤ m
in_place {m} {i} t = let e : 2 ^ (m + 1) ≡ 2 ^ m * 2 = pow-add 2 m 1 in omega (arith, ntz_below (m + 1) i t.counted (omega (arith, t.counted, t.early)))

-- and lies within the table
pub place-within : {m i : ℕ} → InTable m i → ntz i * 16 + 16 ≤ table_bytes
place-within t = omega (arith, in_place t, t.filled)

-- so does that of an earlier block
pub in_earlier : {m i j : ℕ} → InTable m i → 0 < j → j ≤ i → InTable m j
in_earlier t p l = record { filled = t.filled; counted = p; early = omega (arith, t.early) }

-- a block's number is a small one
pub number_fits : {m i : ℕ} → InTable m i → i ≤ 2 ^ m_most
number_fits t = le_trans t.early (pow_mono t.filled)
