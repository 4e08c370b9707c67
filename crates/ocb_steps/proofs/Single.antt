-- A step's promise admits one answer: two runs, and two texts, that meet it are equal. Assumes nothing.
use mathlib.Core.Path.{◌≡◌, sym, ◌∙◌}
use mathlib.Core.Bool.{Bool}
use mathlib.Core.List.{List}
use Prim.Native.Nat.{ℕ}
use Rattle.standards.specs.Rfc7253.{Key}
use Rattle.ocb_steps.specs.declared.Run.{Run}
use Rattle.ocb_steps.specs.Steps.{One, Two, Last}

module _ (K : Key) (S : List ℕ) (r : Run) {S₁ S₂ : List ℕ} {r₁ r₂ : Run} where
  pub one_single : (opens : Bool) → One opens K S r S₁ r₁ → One opens K S r S₂ r₂ → (r₁ ≡ r₂) × (S₁ ≡ S₂)
  one_single opens L M = (L.run ∙ sym M.run, L.text ∙ sym M.text)

  pub two_single : (opens : Bool) → Two opens K S r S₁ r₁ → Two opens K S r S₂ r₂ → (r₁ ≡ r₂) × (S₁ ≡ S₂)
  two_single opens L M = (L.run ∙ sym M.run, L.text ∙ sym M.text)

  pub last_single : (P : List ℕ) → Last K P S r S₁ r₁ → Last K P S r S₂ r₂ → (r₁ ≡ r₂) × (S₁ ≡ S₂)
  last_single P L M = (L.run ∙ sym M.run, L.text ∙ sym M.text)
