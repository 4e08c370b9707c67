-- What holds of each admitted length of a key holds of any, and so for the rounds that go with them. Assumes nothing.
use mathlib.Core.Path.{◌≡◌, refl, subst⁻¹}
use mathlib.Core.Bool.{Bool, true, false, ◌||◌}
use mathlib.Core.List.{List, [], ◌∷◌}
use Prim.Native.Nat.{ℕ, ◌*◌, ◌/◌, ◌≤◌}
use native.Mathlib.Omega.{arith}
use lib.Dec.{eqb, lit≤}
use borrow.Author.Tests.{eqb-true}
use Rattle.sizes.specs.Sizes.{key_lengths, rounds_for, round_numbers, among, KeyLength, Rounds, most_rounds}

-- P holds of each of a list
abbrev Each : (ℕ → Type 0) → List ℕ → Type 0
Each P [] = Unit
Each P (k ∷ ks) = P k × Each P ks

of_any : (P : ℕ → Type 0) (ks : List ℕ) → Each P ks → (n : ℕ) → among ks n ≡ true → P n
of_any P [] each n e = let z : ◌≡◌ {A = ℕ} 0 1 = cc in absurd (omega arith)
of_any P (k ∷ ks) each n e = go (eqb n k) refl e (of_any P ks each.1 n)
  where
    go : (b : Bool) → eqb n k ≡ b → b || among ks n ≡ true → (among ks n ≡ true → P n) → P n
    go true p q others = subst⁻¹ P (eqb-true n k p) each.0
    go false p q others = others q

-- what holds of 16, 24 and 32 holds of every key's length
by_length : (P : ℕ → Type 0) → P 16 → P 24 → P 32 → {n : ℕ} → KeyLength n → P n
by_length P a b c {n} h = of_any P key_lengths (a, (b, (c, tt))) n h.admitted

-- a key has 4 to 8 whole words
pub key_words : {n : ℕ} → KeyLength n → (n ≡ 4 * (n / 4)) × (4 ≤ n / 4) × (n / 4 ≤ 8)
key_words = by_length (λ n. (n ≡ 4 * (n / 4)) × (4 ≤ n / 4) × (n / 4 ≤ 8)) (refl, lit≤ tt, lit≤ tt) (refl, lit≤ tt, lit≤ tt) (refl, lit≤ tt, lit≤ tt)

-- FIPS 197, table 3, as it stands there
pub table_3 : round_numbers ≡ 10 ∷ 12 ∷ 14 ∷ []
table_3 = refl

pub rounds_for_lem : {n : ℕ} → KeyLength n → Rounds (rounds_for n)
rounds_for_lem = by_length (λ n. Rounds (rounds_for n)) (record { admitted = refl }) (record { admitted = refl }) (record { admitted = refl })

pub rounds_within : {nr : ℕ} → Rounds nr → (1 ≤ nr) × (nr ≤ most_rounds)
rounds_within {nr} h =
    of_any (λ r. (1 ≤ r) × (r ≤ most_rounds)) round_numbers ((lit≤ tt, lit≤ tt), ((lit≤ tt, lit≤ tt), ((lit≤ tt, lit≤ tt), tt))) nr h.admitted
