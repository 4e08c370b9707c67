-- Laws of any list of rules: which number is the first, from the tests that were made, and what is known where it is 0. By induction on the list.
-- Assumes nothing.
use mathlib.Core.Path.{◌≡◌, refl, ap, ◌∙◌}
use mathlib.Core.Bool.{Bool, true, false, cond}
use mathlib.Core.List.{List, [], ◌∷◌}
use Prim.Native.Nat.{ℕ, zero, suc, ◌<◌, ◌≤◌}
use native.Mathlib.Omega.{arith}
use Rattle.ocb_numbers.specs.Numbers.{Rule, first}

-- none of the first i rules applies
abbrev pub NoneBefore : ℕ → List Rule → Type 0
NoneBefore zero rules = Unit
NoneBefore (suc i) [] = Unit
NoneBefore (suc i) (rule ∷ rules) = (rule.applies ≡ false) × NoneBefore i rules

-- none at all
abbrev pub None : List Rule → Type 0
None [] = Unit
None (rule ∷ rules) = (rule.applies ≡ false) × None rules

-- rule i, counted from 0, is there and applies
abbrev pub Applies : ℕ → List Rule → Type 0
Applies i [] = ⊥
Applies zero (rule ∷ rules) = rule.applies ≡ true
Applies (suc i) (rule ∷ rules) = Applies i rules

abbrev pub number_at : ℕ → List Rule → ℕ
number_at i [] = 0
number_at zero (rule ∷ rules) = rule.number
number_at (suc i) (rule ∷ rules) = number_at i rules

-- each rule's number is in 1..most
abbrev pub Numbered : ℕ → List Rule → Type 0
Numbered most [] = Unit
Numbered most (rule ∷ rules) = (0 < rule.number) × (rule.number ≤ most) × Numbered most rules

-- where none before rule i applies, and rule i does, the number is its
pub first-at : (i : ℕ) (rules : List Rule) → NoneBefore i rules → Applies i rules → first rules ≡ number_at i rules
first-at zero [] none this = absurd this
first-at (suc i) [] none this = absurd this
first-at zero (rule ∷ rules) none this = ap (λ (b : Bool). cond b rule.number (first rules)) this
first-at (suc i) (rule ∷ rules) none this = ap (λ (b : Bool). cond b rule.number (first rules)) none.0 ∙ first-at i rules none.1 this

-- where none applies, it is 0
pub first-none : (rules : List Rule) → None rules → first rules ≡ 0
first-none [] none = refl
first-none (rule ∷ rules) none = ap (λ (b : Bool). cond b rule.number (first rules)) none.0 ∙ first-none rules none.1

-- and the reverse, for rules whose numbers are not 0
pub none_applies : (most : ℕ) (rules : List Rule) → Numbered most rules → first rules ≡ 0 → None rules
none_applies most [] numbered e = tt
none_applies most (rule ∷ rules) numbered e = go rule.applies refl e (none_applies most rules numbered.2)
  where
    go : (b : Bool) → rule.applies ≡ b → cond b rule.number (first rules) ≡ 0 → (first rules ≡ 0 → None rules) → None (rule ∷ rules)
    go true p q others = absurd (omega (arith, numbered.0))
    go false p q others = (p, others q)

pub first_most : (most : ℕ) (rules : List Rule) → Numbered most rules → first rules ≤ most
first_most most [] numbered = omega arith
first_most most (rule ∷ rules) numbered = go rule.applies (first_most most rules numbered.2)
  where
    go : (b : Bool) → first rules ≤ most → cond b rule.number (first rules) ≤ most
    go true others = numbered.1
    go false others = others
