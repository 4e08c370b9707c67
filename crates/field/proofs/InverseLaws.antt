-- `inverse` is the inverse: one computed test of the 255 bytes that have one, and the ring's laws, by which no byte has a second.
-- Assumes nothing.
use mathlib.Core.Path.{◌≡◌, refl, sym, ap, ◌∙◌}
use Prim.Native.Nat.{ℕ, zero, suc, ◌<◌}
use native.Mathlib.Nat.{not-suc-le-zero}
use native.Mathlib.Omega.{arith}
use Rattle.standards.specs.Strings.{◌⊕◌}
use Rattle.standards.specs.Fips197.{xtime, times, ◌•◌, power, inverse}
use Rattle.block.proofs.Tests.{equal}
use Rattle.field.proofs.FieldLaws.{product_below, product_zero, product_left_comm, product_one, product_comm}

inverse_test : (b : ℕ) → b < 255 → suc b • inverse (suc b) ≡ 1
unfolding inverse power ◌•◌ times xtime ◌⊕◌
inverse_test = equal (λ b. suc b • inverse (suc b)) (λ b. 1) 255 tt

pub inverse_right : (b : ℕ) → 0 < b → b < 256 → b • inverse b ≡ 1
inverse_right zero l h = absurd (not-suc-le-zero l)
inverse_right (suc b) l h = inverse_test b (omega arith)

pub inverse_below : (b : ℕ) → b < 256 → inverse b < 256
unfolding inverse power
inverse_below b h = product_below _ _ (product_below _ b h)

-- b is b • (a • a⁻¹), which is a⁻¹ • (a • b)
pub inverse_only : (a b : ℕ) → 0 < a → a < 256 → b < 256 → a • b ≡ 1 → b ≡ inverse a
inverse_only a b l ha hb e =
    let hi : inverse a < 256 = inverse_below a ha in
    sym (product_one b hb)
    ∙ ap (λ (x : ℕ). b • x) (sym (inverse_right a l ha))
    ∙ product_left_comm b a (inverse a)
    ∙ ap (λ (x : ℕ). a • x) (product_comm b (inverse a) hb hi)
    ∙ product_left_comm a (inverse a) b
    ∙ ap (λ (x : ℕ). inverse a • x) e
    ∙ product_one (inverse a) hi

inverse_zero : inverse 0 ≡ 0
unfolding inverse power ◌•◌ times xtime ◌⊕◌
inverse_zero = refl

-- 0 is nothing's inverse but its own: a product with 0 is not 1
pub inverse_twice : (b : ℕ) → b < 256 → inverse (inverse b) ≡ b
inverse_twice zero h = ap inverse inverse_zero ∙ inverse_zero
inverse_twice (suc b) h =
    let r : suc b • inverse (suc b) ≡ 1 = inverse_right (suc b) (omega arith) h in
    let hi : inverse (suc b) < 256 = inverse_below (suc b) h in
    sym (inverse_only (inverse (suc b)) (suc b) (positive (inverse (suc b)) r) hi h (product_comm (inverse (suc b)) (suc b) hi h ∙ r))
  where
    positive : (i : ℕ) → suc b • i ≡ 1 → 0 < i
    positive zero r = absurd (let z : ◌≡◌ {A = ℕ} 0 1 = sym (product_zero (suc b)) ∙ r in omega arith)
    positive (suc i) r = omega arith
