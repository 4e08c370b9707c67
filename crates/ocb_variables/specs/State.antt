-- The state that a key is made into (RFC 7253, section 4.1).
use Rattle.std.specs.Prelude.{List, [], ◌++◌, ℕ, zero, suc, ◌+◌, ◌*◌, ◌-◌, length}
use Rattle.sizes.specs.Sizes.{rounds_for, table_bytes}
use Rattle.standards.specs.Strings.{zeros}
use Rattle.standards.specs.Rfc7253.{double, doubled}
use Rattle.aes.specs.Cipher.{enc}
use Rattle.aes.specs.Schedule.{round_keys_of}
use Rattle.ocb_variables.specs.declared.State.{State}

-- L_0 to L_(i-1), of L_$: L_i is L_$ doubled i + 1 times
unfoldable pub rows : List ℕ → ℕ → List ℕ
rows dollar zero = []
rows dollar (suc i) = rows dollar i ++ doubled (suc i) dollar

-- L_0 to L_m, and zeros in the other places
unfoldable pub table_of : List ℕ → ℕ → List ℕ
table_of dollar m = rows dollar (m + 1) ++ zeros (table_bytes - (m + 1) * 16)

-- of round keys rk, their number of rounds and m: L_* is the zero block enciphered, L_$ its double
unfoldable pub state_of : List ℕ → ℕ → ℕ → State
state_of rk rounds m =
    let star : List ℕ = enc rounds rk (zeros 16) in
    record { round_keys = rk; table = table_of (double star) m; values = record { rounds = rounds; m = m; star = star; dollar = double star } }

-- of a key k and m
abbrev pub state_for : List ℕ → ℕ → State
state_for k m = state_of (round_keys_of k) (rounds_for (length k)) m
