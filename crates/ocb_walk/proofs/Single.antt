-- A walk's promise admits one answer: two runs, and two texts, that meet it are equal. Assumes nothing.
use mathlib.Core.Path.{◌≡◌, sym, ◌∙◌}
use mathlib.Core.Bool.{Bool}
use mathlib.Core.List.{List}
use Prim.Native.Nat.{ℕ}
use Rattle.standards.specs.Rfc7253.{Key}
use Rattle.ocb_steps.specs.declared.Run.{Run}
use Rattle.ocb_walk.specs.Walked.{Walked, Ended}

module _ (K : Key) (O S : List ℕ) {S₁ S₂ : List ℕ} {r₁ r₂ : Run} where
  pub walked_single : (opens : Bool) → Walked opens K O S S₁ r₁ → Walked opens K O S S₂ r₂ → (r₁ ≡ r₂) × (S₁ ≡ S₂)
  walked_single opens L M = (L.run ∙ sym M.run, L.text ∙ sym M.text)

  pub ended_single : (f sum : Key → List ℕ → List ℕ → List ℕ) → Ended f sum K O S S₁ r₁ → Ended f sum K O S S₂ r₂ → (r₁ ≡ r₂) × (S₁ ≡ S₂)
  ended_single f sum L M = (L.run_is ∙ sym M.run_is, L.text_is ∙ sym M.text_is)
