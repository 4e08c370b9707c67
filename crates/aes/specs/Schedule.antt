-- The key schedule in the place that is kept for it, and what it asks of its sizes.
use Rattle.std.specs.Prelude.{◌≡◌, List, ◌++◌, ℕ, ◌+◌, ◌-◌, ◌*◌, ◌/◌, ◌≤◌, length}
use Rattle.sizes.specs.Sizes.{rounds_for, round_key_bytes}
use Rattle.standards.specs.Strings.{zeros}
use Rattle.standards.specs.Fips197.{key_expansion}

-- the key's round keys by FIPS 197, section 5.2, and zeros in the rest of the place
unfoldable pub round_keys_of : List ℕ → List ℕ
round_keys_of k = key_expansion (length k / 4) (rounds_for (length k)) k ++ zeros (round_key_bytes - 16 * (rounds_for (length k) + 1))

-- a key of nk words, room for n, and no more words than the ten round constants reach
pub record ScheduleSizes (nk n : ℕ) (key w : List ℕ) : Type 0 where
  pub some : 1 ≤ nk
  pub key_size : length key ≡ 4 * nk
  pub longer : nk ≤ n
  pub reach : n ≤ 11 * nk
  pub room : length w ≡ 4 * n
