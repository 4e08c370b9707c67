-- The key schedule: what the code's branches and turns do.
-- Assumes nothing.
use mathlib.Core.Path.{◌≡◌, refl, sym, ap, ap₂, ◌∙◌}
use mathlib.Core.List.{List, [], ◌∷◌, ◌++◌}
use Prim.Native.Nat.{ℕ, suc, ◌+◌, ◌-◌, ◌*◌, ◌/◌, ◌%◌, ◌<◌, ◌≤◌}
use native.Mathlib.Nat.{le-div_iff_mul-le, div-lt_iff_lt-mul, le_of_suc-le-suc}
use native.Mathlib.Omega.{arith}
use lib.ListN.{length, take}
use lib.Seq.{take_all, take_at, get_or-take}
use borrow.Author.Tests.{eq-eqb, ne_eqb, lt-ltb, le-ltb}
use Rattle.standards.specs.Fips197.{word, add_column, rot_word, sub_word, rcon_word, temp, next_word, schedule}

-- ---- temp: what each way through the code's branches computes

module _ (nk i : ℕ) (t : List ℕ) where
  pub temp_turned : i % nk ≡ 0 → temp nk i t ≡ add_column (sub_word (rot_word t)) (rcon_word (i / nk))
  temp_turned h = rw (eq-eqb _ _ h)

  pub temp_substituted : (i % nk ≡ 0 → ⊥) → 6 < nk → i % nk ≡ 4 → temp nk i t ≡ sub_word t
  temp_substituted h k m = rw (ne_eqb _ _ h, lt-ltb _ _ k, eq-eqb _ _ m)

  pub temp_short : (i % nk ≡ 0 → ⊥) → nk ≤ 6 → temp nk i t ≡ t
  temp_short h k = rw (ne_eqb _ _ h, le-ltb _ _ k)

  pub temp_long : (i % nk ≡ 0 → ⊥) → 6 < nk → (i % nk ≡ 4 → ⊥) → temp nk i t ≡ t
  temp_long h k m = rw (ne_eqb _ _ h, lt-ltb _ _ k, ne_eqb _ _ m)

-- p and t are the two words before it that the next is made of
pub next_by : (nk : ℕ) (w : List ℕ) (i : ℕ) (p t u r : List ℕ) → p ≡ word w (i - nk) → t ≡ word w (i - 1) → u ≡ temp nk i t → r ≡ add_column p u
    → r ≡ next_word nk w i
unfolding next_word
next_by nk w i p t u r hp ht hu hr = hr ∙ ap₂ add_column hp (hu ∙ ap (temp nk i) ht)

-- the turned words take round constants 1 to 10
pub quotient : (i nk : ℕ) → 1 ≤ nk → nk ≤ i → i < 11 * nk → (1 ≤ i / nk) × (i / nk ≤ 10)
quotient i nk h k l = ((le-div_iff_mul-le h).1 (omega arith), le_of_suc-le-suc ((div-lt_iff_lt-mul h).1 l))

-- ---- a turn
pub word_take : (w : List ℕ) (n j : ℕ) → 4 * j + 3 < n → word (take n w) j ≡ word w j
word_take w n j h = λ x.
    get_or-take n w (4 * j) 0 (omega arith) x ∷ get_or-take n w (4 * j + 1) 0 (omega arith) x
    ∷ get_or-take n w (4 * j + 2) 0 (omega arith) x ∷ get_or-take n w (4 * j + 3) 0 (omega arith) x ∷ []

next_take : (nk : ℕ) (w : List ℕ) (i : ℕ) → 1 ≤ nk → nk ≤ i → next_word nk (take (4 * i) w) i ≡ next_word nk w i
unfolding next_word
next_take nk w i h k =
    ap₂ (λ (x y : List ℕ). add_column x (temp nk i y)) (word_take w (4 * i) (i - nk) (omega arith)) (word_take w (4 * i) (i - 1) (omega arith))

grown : (nk : ℕ) (key : List ℕ) (m : ℕ) → schedule nk key m ++ next_word nk (schedule nk key m) (nk + m) ≡ schedule nk key (suc m)
unfolding schedule
grown nk key m = refl

pub key_turn : (nk : ℕ) (key : List ℕ) (i : ℕ) (w w' v : List ℕ) → 1 ≤ nk → nk ≤ i → take (4 * i) w ≡ schedule nk key (i - nk) → v ≡ next_word nk w i
    → take (4 * (i + 1)) w' ≡ take (4 * i) w ++ v → take (4 * (i + 1)) w' ≡ schedule nk key (i + 1 - nk)
key_turn nk key i w w' v h k e q p =
    let n : i ≡ nk + (i - nk) = omega arith in
    let s : suc (i - nk) ≡ i + 1 - nk = omega arith in
    p ∙ ap₂ ◌++◌ e (q ∙ sym (next_take nk w i h k) ∙ ap₂ (next_word nk) e n) ∙ grown nk key (i - nk) ∙ ap (schedule nk key) s

-- ---- the key is copied
pub key_copied : (nk n : ℕ) (key w rest : List ℕ) → length key ≡ 4 * nk → 4 * nk ≤ n → w ≡ take n key ++ rest → take (4 * nk) w ≡ schedule nk key (nk - nk)
unfolding schedule
key_copied nk n key w rest e r h =
    let z : nk - nk ≡ 0 = omega arith in
    rw z (ap (take (4 * nk)) (h ∙ ap (λ (x : List ℕ). x ++ rest) (take_all n key (omega arith))) ∙ take_at key rest (4 * nk) e)
