-- Whether two strings are the same, and a row's nonce and another string. Assumes nothing.
use mathlib.Core.Path.{◌≡◌, refl, sym, ap, subst⁻¹, ◌∙◌}
use mathlib.Core.Bool.{Bool, true, false, ◌&&◌}
use mathlib.Core.List.{List, [], ◌∷◌}
use Prim.Native.Nat.{ℕ, suc, ◌<◌}
use native.Mathlib.Omega.{arith}
use lib.Dec.{T, eqb}
use lib.ListN.{length, take, drop}
use lib.Pointwise.{pointwise}
use lib.Seq.{take_all}
use Rattle.standards.specs.Rfc7253.{same}
use Rattle.block.specs.Words.{le}
use Rattle.block.proofs.StringLaws.{same_equal}
use Rattle.spill_form.specs.File.{count, row_at, nonce_of}
use Rattle.spill_form.specs.Accepted.{Tabled}
use Rattle.spill_form.specs.declared.Form.{Form}
use Rattle.spill_form.proofs.PlaceLaws.{row_within, bytes_at_length}

and-false : (b : Bool) → b && false ≡ false
and-false true = refl
and-false false = refl

pub other_length : (a b : List ℕ) → (length a ≡ length b → ⊥) → same a b ≡ false
unfolding same
other_length [] [] h = absurd (h refl)
other_length [] (y ∷ b) h = refl
other_length (x ∷ a) [] h = refl
other_length (x ∷ a) (y ∷ b) h = ap (λ (t : Bool). eqb x y && t) (other_length a b (λ e. h (ap suc e))) ∙ and-false (eqb x y)

-- byte by byte
same_is : (a b : List ℕ) → same a b ≡ pointwise eqb a b
unfolding same
same_is [] [] = refl
same_is [] (y ∷ b) = refl
same_is (x ∷ a) [] = refl
same_is (x ∷ a) (y ∷ b) = ap (λ t. eqb x y && t) (same_is a b)

-- of one length, they are the same if one starts with the other
pub same_front : (a b : List ℕ) → length b ≡ length a → same a b ≡ pointwise eqb a (take (length a) b)
same_front a b h = same_is a b ∙ ap (pointwise eqb a) (sym (take_all (length a) b (omega arith)))

-- nor are two the same whose first numbers differ
pub other_front : (a b : List ℕ) → (le (take 4 (drop 0 a)) ≡ le (take 4 (drop 0 b)) → ⊥) → same a b ≡ false
other_front a b h = go (same a b) refl
  where
    go : (t : Bool) → same a b ≡ t → same a b ≡ false
    go false e = e
    go true e = absurd (h (ap (λ (s : List ℕ). le (take 4 (drop 0 s))) (same_equal a b (subst⁻¹ T e tt))))

-- a counted row's nonce has twelve bytes
pub nonce_size : (f : Form) (S : List ℕ) (i : ℕ) → Tabled f S → i < count S → length (nonce_of f S i) ≡ 12
nonce_size f S i t h = bytes_at_length S (row_at f i) 12 (omega (arith, row_within f i (count S) h, t.room))
