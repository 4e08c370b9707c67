-- The comparison of tags: the difference of the bytes so far is 0 where they are all the same, and each turn of the loop keeps that.
-- Assumes nothing.
use mathlib.Core.Path.{◌≡◌, refl, sym, ap, ap₂, ◌∙◌}
use mathlib.Core.Bool.{Bool, true, false, ◌&&◌}
use mathlib.Core.List.{List, [], ◌∷◌}
use Prim.Native.Nat.{ℕ, zero, suc, ◌+◌, ◌<◌}
use native.Mathlib.Nat.{not-suc-le-zero, le_of_suc-le-suc}
use native.Mathlib.Numerals.{add-one}
use native.Mathlib.Omega.{arith}
use lib.Bits.{bit_or, or_add_and, and_le_l, and_le_r}
use lib.Dec.{eqb}
use lib.ListN.{length, get_or, take}
use borrow.Author.Tests.{eqb-true, eq-eqb}
use Rattle.standards.specs.Strings.{◌⊕◌}
use Rattle.standards.specs.Rfc7253.{same}
use Rattle.block.proofs.XorLaws.{self, zero_left, cancel_right}

both : (a b : Bool) → a && b ≡ true → (a ≡ true) × (b ≡ true)
both true b h = (refl, h)
both false b h = let z : ◌≡◌ {A = ℕ} 0 1 = cc in absurd (omega arith)

iff : (a b : Bool) → (a ≡ true → b ≡ true) → (b ≡ true → a ≡ true) → a ≡ b
iff true b f g = sym (f refl)
iff false true f g = g refl
iff false false f g = refl

or-zero : (a b : ℕ) → eqb (bit_or a b) 0 ≡ eqb a 0 && eqb b 0
or-zero a b =
    iff (eqb (bit_or a b) 0) (eqb a 0 && eqb b 0)
    (λ h.
    let z : bit_or a b ≡ 0 = eqb-true (bit_or a b) 0 h in
    let za : a ≡ 0 = omega (arith, or_add_and a b, and_le_l a b, and_le_r a b) in
    let zb : b ≡ 0 = omega (arith, or_add_and a b, and_le_l a b, and_le_r a b) in
    ap₂ (λ (x y : Bool). x && y) (eq-eqb a 0 za) (eq-eqb b 0 zb))
    (λ h.
    let p = both (eqb a 0) (eqb b 0) h in
    let za : a ≡ 0 = eqb-true a 0 p.0 in
    let zb : b ≡ 0 = eqb-true b 0 p.1 in
    eq-eqb (bit_or a b) 0 (omega (arith, or_add_and a b)))

xor-zero : (x y : ℕ) → eqb (x ⊕ y) 0 ≡ eqb x y
xor-zero x y =
    iff (eqb (x ⊕ y) 0) (eqb x y)
    (λ h. eq-eqb x y (sym (cancel_right x y) ∙ ap (λ (z : ℕ). z ⊕ y) (eqb-true (x ⊕ y) 0 h) ∙ zero_left y))
    (λ h. eq-eqb (x ⊕ y) 0 (ap (λ (z : ℕ). z ⊕ y) (eqb-true x y h) ∙ self y))

and-true : (a : Bool) → a && true ≡ a
and-true true = refl
and-true false = refl

and_assoc : (a b c : Bool) → (a && b) && c ≡ a && (b && c)
and_assoc true b c = refl
and_assoc false b c = refl

-- one byte more
same_suc : (S T : List ℕ) (i : ℕ) → i < length S → i < length T
    → same (take (suc i) S) (take (suc i) T) ≡ same (take i S) (take i T) && eqb (get_or S i 0) (get_or T i 0)
unfolding same
same_suc [] T i h l = absurd (not-suc-le-zero h)
same_suc (x ∷ S) [] i h l = absurd (not-suc-le-zero l)
same_suc (x ∷ S) (y ∷ T) zero h l = and-true (eqb x y)
same_suc (x ∷ S) (y ∷ T) (suc i) h l =
    ap (λ (z : Bool). eqb x y && z) (same_suc S T i (le_of_suc-le-suc h) (le_of_suc-le-suc l))
    ∙ sym (and_assoc (eqb x y) (same (take i S) (take i T)) (eqb (get_or S i 0) (get_or T i 0)))

-- a turn of the loop: d is the difference so far
pub same_turn : (S T : List ℕ) (i d : ℕ) → i < length S → i < length T → eqb d 0 ≡ same (take i S) (take i T)
    → eqb (bit_or d (get_or S i 0 ⊕ get_or T i 0)) 0 ≡ same (take (i + 1) S) (take (i + 1) T)
same_turn S T i d h l e =
    or-zero d (get_or S i 0 ⊕ get_or T i 0)
    ∙ ap₂ (λ (a b : Bool). a && b) e (xor-zero (get_or S i 0) (get_or T i 0))
    ∙ sym (same_suc S T i h l)
    ∙ ap (λ (k : ℕ). same (take k S) (take k T)) (sym (add-one i))
