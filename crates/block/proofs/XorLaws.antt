-- The laws of exclusive or: a commutative group in which each element is its own inverse.
-- Assumes nothing.
use mathlib.Core.Path.{◌≡◌, refl, sym, ap, ap₂, ◌∙◌}
use Prim.Native.Nat.{ℕ, zero, suc, ◌+◌, ◌*◌, ◌/◌, ◌%◌, ◌^◌, ◌<◌}
use native.Mathlib.Nat.{mod-lt, zero-lt-suc, le_of_suc-le-suc, not-suc-le-zero}
use lib.Arith.{bin_ind}
use lib.Bits.{bit_xor, differ, xor_step, xor_shr, xor_mod, xor_comm, xor_self, xor_zero_r, xor_lt}
use Rattle.standards.specs.Strings.{◌⊕◌}

-- of one digit
bit_assoc : (x y z : ℕ) → x < 2 → y < 2 → z < 2 → differ (differ x y) z ≡ differ x (differ y z)
bit_assoc zero y z hx hy hz = refl
bit_assoc (suc zero) zero z hx hy hz = refl
bit_assoc (suc zero) (suc zero) zero hx hy hz = refl
bit_assoc (suc zero) (suc zero) (suc zero) hx hy hz = refl
bit_assoc (suc zero) (suc zero) (suc (suc z)) hx hy hz = absurd (not-suc-le-zero (le_of_suc-le-suc (le_of_suc-le-suc hz)))
bit_assoc (suc zero) (suc (suc y)) z hx hy hz = absurd (not-suc-le-zero (le_of_suc-le-suc (le_of_suc-le-suc hy)))
bit_assoc (suc (suc x)) y z hx hy hz = absurd (not-suc-le-zero (le_of_suc-le-suc (le_of_suc-le-suc hx)))

two_pos : 0 < 2
two_pos = zero-lt-suc 1

pub bit_lt : (n : ℕ) → n % 2 < 2
bit_lt n = mod-lt n two_pos

bit_xor_lem : (x y : ℕ) → x < 2 → y < 2 → bit_xor x y ≡ differ x y
bit_xor_lem zero y hx hy = refl
bit_xor_lem (suc zero) zero hx hy = refl
bit_xor_lem (suc zero) (suc zero) hx hy = refl
bit_xor_lem (suc zero) (suc (suc y)) hx hy = absurd (not-suc-le-zero (le_of_suc-le-suc (le_of_suc-le-suc hy)))
bit_xor_lem (suc (suc x)) y hx hy = absurd (not-suc-le-zero (le_of_suc-le-suc (le_of_suc-le-suc hx)))

half : (a b : ℕ) → bit_xor a b / 2 ≡ bit_xor (a / 2) (b / 2)
half a b = xor_shr a b 1

pub odd : (a b : ℕ) → bit_xor a b % 2 ≡ differ (a % 2) (b % 2)
odd a b = xor_mod a b 1 ∙ bit_xor_lem (a % 2) (b % 2) (bit_lt a) (bit_lt b)

bit_assoc_xor : (a b c : ℕ) → bit_xor (bit_xor a b) c ≡ bit_xor a (bit_xor b c)
bit_assoc_xor a =
    bin_ind (λ (n : ℕ). (b c : ℕ) → bit_xor (bit_xor n b) c ≡ bit_xor n (bit_xor b c)) (λ b c. refl)
    (λ n ih b c.
    xor_step (bit_xor n b) c
    ∙ ap₂ (λ (x y : ℕ). x * 2 + y)
    (ap (λ (x : ℕ). bit_xor x (c / 2)) (half n b) ∙ ih (b / 2) (c / 2) ∙ ap (λ (x : ℕ). bit_xor (n / 2) x) (sym (half b c)))
    (ap (λ (x : ℕ). differ x (c % 2)) (odd n b)
    ∙ bit_assoc (n % 2) (b % 2) (c % 2) (bit_lt n) (bit_lt b) (bit_lt c)
    ∙ ap (λ (x : ℕ). differ (n % 2) x) (sym (odd b c)))
    ∙ sym (xor_step n (bit_xor b c))) a

pub assoc : (a b c : ℕ) → a ⊕ b ⊕ c ≡ a ⊕ (b ⊕ c)
unfolding ◌⊕◌
assoc = bit_assoc_xor

pub comm : (a b : ℕ) → a ⊕ b ≡ b ⊕ a
unfolding ◌⊕◌
comm = xor_comm

pub self : (a : ℕ) → a ⊕ a ≡ 0
unfolding ◌⊕◌
self = xor_self

pub zero_left : (a : ℕ) → 0 ⊕ a ≡ a
unfolding ◌⊕◌
zero_left a = refl

pub zero_right : (a : ℕ) → a ⊕ 0 ≡ a
unfolding ◌⊕◌
zero_right = xor_zero_r

pub below : (k a b : ℕ) → a < 2 ^ k → b < 2 ^ k → a ⊕ b < 2 ^ k
unfolding ◌⊕◌
below = xor_lt

pub left_comm : (a b c : ℕ) → a ⊕ (b ⊕ c) ≡ b ⊕ (a ⊕ c)
left_comm a b c = sym (assoc a b c) ∙ ap (λ (x : ℕ). x ⊕ c) (comm a b) ∙ assoc b a c

pub cancel_left : (a b : ℕ) → a ⊕ (a ⊕ b) ≡ b
cancel_left a b = sym (assoc a a b) ∙ ap (λ (x : ℕ). x ⊕ b) (self a) ∙ zero_left b

pub cancel_right : (a b : ℕ) → a ⊕ b ⊕ b ≡ a
cancel_right a b = assoc a b b ∙ ap (λ (x : ℕ). a ⊕ x) (self b) ∙ zero_right a

-- a sum is sorted, and what stands in it twice goes
pub ruleset sums = (assoc, comm, left_comm, self, cancel_left, zero_left, zero_right)
