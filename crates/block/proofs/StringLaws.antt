-- Strings of bytes under xor, of zeros, and which operations keep a string's numbers bytes.
-- Assumes nothing.
use mathlib.Core.Path.{◌≡◌, refl, sym, ap, ap₂, ◌∙◌}
use mathlib.Core.Bool.{Bool, true, ◌&&◌}
use mathlib.Core.List.{List, [], ◌∷◌, ◌++◌}
use Prim.Native.Nat.{ℕ, zero, suc, ◌+◌, ◌-◌, ◌<◌}
use native.Mathlib.Nat.{le_of_suc-le-suc, not-suc-le-zero, suc_inj, sub-zero, zero-sub, suc-sub-suc, zero-add, suc-add}
use native.Mathlib.Omega.{arith}
use native.Mathlib.Numerals.{add-one}
use borrow.Author.Tests.{eq-eqb}
use lib.Dec.{T, eqb, eqb→eq, lit<}
use lib.ListN.{length, get_or, set, take, drop, replicate}
use lib.Seq.{take-nil}
use Rattle.standards.specs.Strings.{◌⊕◌, ◌xor◌, zeros, Bytes, Block}
use Rattle.standards.specs.Rfc7253.{same}
use Rattle.block.proofs.Tests.{and_left, and_right}
use Rattle.block.proofs.NumberLaws.{below_append}
use Rattle.block.proofs.XorLaws.{assoc, comm, cancel_right, below}

-- ---- xor

pub xor_length : (a b : List ℕ) → length (a xor b) ≡ length a
unfolding ◌xor◌
xor_length a [] = refl
xor_length [] (y ∷ ys) = refl
xor_length (x ∷ xs) (y ∷ ys) = ap suc (xor_length xs ys)

-- twice the same is nothing
pub xor_cancel : (a b : List ℕ) → a xor b xor b ≡ a
unfolding ◌xor◌
xor_cancel a [] = refl
xor_cancel [] (y ∷ ys) = refl
xor_cancel (x ∷ xs) (y ∷ ys) = ap₂ (λ (h : ℕ) (t : List ℕ). h ∷ t) (cancel_right x y) (xor_cancel xs ys)

pub xor_comm : (a b : List ℕ) → length a ≡ length b → a xor b ≡ b xor a
unfolding ◌xor◌
xor_comm [] [] e = refl
xor_comm [] (y ∷ ys) e = absurd (omega arith)
xor_comm (x ∷ xs) [] e = absurd (omega arith)
xor_comm (x ∷ xs) (y ∷ ys) e = ap₂ (λ (h : ℕ) (t : List ℕ). h ∷ t) (comm x y) (xor_comm xs ys (suc_inj e))

pub xor_assoc : (a b c : List ℕ) → length b ≡ length c → a xor b xor c ≡ a xor (b xor c)
unfolding ◌xor◌
xor_assoc a [] [] e = refl
xor_assoc a [] (z ∷ zs) e = absurd (omega arith)
xor_assoc a (y ∷ ys) [] e = absurd (omega arith)
xor_assoc [] (y ∷ ys) (z ∷ zs) e = refl
xor_assoc (x ∷ xs) (y ∷ ys) (z ∷ zs) e = ap₂ (λ (h : ℕ) (t : List ℕ). h ∷ t) (assoc x y z) (xor_assoc xs ys zs (suc_inj e))

-- what lies past the first string's end is not used
pub xor_take : (a b : List ℕ) → a xor take (length a) b ≡ a xor b
unfolding ◌xor◌
xor_take [] [] = refl
xor_take [] (y ∷ ys) = refl
xor_take (x ∷ xs) [] = refl
xor_take (x ∷ xs) (y ∷ ys) = ap (λ (t : List ℕ). (x ⊕ y) ∷ t) (xor_take xs ys)

pub xor_at : (a b : List ℕ) (i : ℕ) → i < length a → i < length b → get_or (a xor b) i 0 ≡ get_or a i 0 ⊕ get_or b i 0
unfolding ◌xor◌
xor_at a [] i h k = absurd (not-suc-le-zero k)
xor_at [] (y ∷ ys) i h k = absurd (not-suc-le-zero h)
xor_at (x ∷ xs) (y ∷ ys) zero h k = refl
xor_at (x ∷ xs) (y ∷ ys) (suc i) h k = xor_at xs ys i (le_of_suc-le-suc h) (le_of_suc-le-suc k)

pub xor_append : (a b c d : List ℕ) → length a ≡ length b → (a ++ c) xor (b ++ d) ≡ (a xor b) ++ (c xor d)
unfolding ◌xor◌
xor_append [] [] c d e = refl
xor_append [] (y ∷ b) c d e = absurd (omega arith)
xor_append (x ∷ a) [] c d e = absurd (omega arith)
xor_append (x ∷ a) (y ∷ b) c d e = ap (λ (t : List ℕ). (x ⊕ y) ∷ t) (xor_append a b c d (suc_inj e))

-- the store at place i takes the xor with b's first i places to the xor with b's first i + 1
xor_set : (a b : List ℕ) (i : ℕ) → i < length b
    → set (a xor take i b) i (get_or (a xor take i b) i 0 ⊕ get_or b i 0) ≡ a xor take (suc i) b
unfolding ◌xor◌
xor_set a [] i h = absurd (not-suc-le-zero h)
xor_set [] (y ∷ ys) zero h = refl
xor_set [] (y ∷ ys) (suc i) h = refl
xor_set (x ∷ xs) (y ∷ ys) zero h = refl
xor_set (x ∷ xs) (y ∷ ys) (suc i) h = ap (λ (t : List ℕ). (x ⊕ y) ∷ t) (xor_set xs ys i (le_of_suc-le-suc h))

-- the same, as a loop's turn asks it: r is what the loop has so far
pub xor_turn : (a b r : List ℕ) (i : ℕ) → i < length b → r ≡ a xor take i b
    → set r i (get_or r i 0 ⊕ get_or b i 0) ≡ a xor take (i + 1) b
xor_turn a b r i h e =
    ap (λ (l : List ℕ). set l i (get_or l i 0 ⊕ get_or b i 0)) e ∙ xor_set a b i h ∙ ap (λ (k : ℕ). a xor take k b) (sym (add-one i))

-- ---- parts, and zeros

pub drop-take : (n k : ℕ) (l : List ℕ) → drop n (take (n + k) l) ≡ take k (drop n l)
drop-take zero k l = ap (λ (x : ℕ). take x l) (zero-add k)
drop-take (suc n) k [] = ap (drop (suc n)) (take-nil (suc n + k)) ∙ sym (take-nil k)
drop-take (suc n) k (x ∷ l) = ap (λ (y : ℕ). drop (suc n) (take y (x ∷ l))) (suc-add n k) ∙ drop-take n k l

pub drop_zeros : (n k : ℕ) → drop n (zeros k) ≡ zeros (k - n)
drop_zeros zero k = ap zeros (sym (sub-zero k))
drop_zeros (suc n) zero = ap zeros (sym (zero-sub (suc n)))
drop_zeros (suc n) (suc k) = drop_zeros n k ∙ ap zeros (sym (suc-sub-suc k n))

-- ---- the test of two strings

pub same_self : (a : List ℕ) → same a a ≡ true
unfolding same
same_self [] = refl
same_self (x ∷ a) = ap₂ (λ (p q : Bool). p && q) (eq-eqb x x refl) (same_self a)

pub same_equal : (a b : List ℕ) → T (same a b) → a ≡ b
unfolding same
same_equal [] [] t = refl
same_equal [] (y ∷ b) t = absurd t
same_equal (x ∷ a) [] t = absurd t
same_equal (x ∷ a) (y ∷ b) t =
    ap₂ (λ (h : ℕ) (s : List ℕ). h ∷ s) (eqb→eq x y (and_left (eqb x y) (same a b) t)) (same_equal a b (and_right (eqb x y) (same a b) t))

-- ---- strings whose numbers are bytes

pub bytes_none : Bytes []
bytes_none i = lit< tt

pub bytes_cons : (x : ℕ) (a : List ℕ) → x < 256 → Bytes a → Bytes (x ∷ a)
bytes_cons x a hx ha zero = hx
bytes_cons x a hx ha (suc i) = ha i

pub bytes_zeros : (n : ℕ) → Bytes (replicate n 0)
bytes_zeros zero i = lit< tt
bytes_zeros (suc n) zero = lit< tt
bytes_zeros (suc n) (suc i) = bytes_zeros n i

pub bytes_append : (a b : List ℕ) → Bytes a → Bytes b → Bytes (a ++ b)
bytes_append = below_append 256

pub bytes_take : (n : ℕ) (a : List ℕ) → Bytes a → Bytes (take n a)
bytes_take zero a h i = lit< tt
bytes_take (suc n) [] h i = lit< tt
bytes_take (suc n) (x ∷ a) h zero = h 0
bytes_take (suc n) (x ∷ a) h (suc i) = bytes_take n a (λ j. h (suc j)) i

pub bytes_drop : (n : ℕ) (a : List ℕ) → Bytes a → Bytes (drop n a)
bytes_drop zero a h i = h i
bytes_drop (suc n) [] h i = lit< tt
bytes_drop (suc n) (x ∷ a) h i = bytes_drop n a (λ j. h (suc j)) i

pub bytes_set : (a : List ℕ) (n x : ℕ) → Bytes a → x < 256 → Bytes (set a n x)
bytes_set [] n x h hx i = h i
bytes_set (y ∷ a) zero x h hx zero = hx
bytes_set (y ∷ a) zero x h hx (suc i) = h (suc i)
bytes_set (y ∷ a) (suc n) x h hx zero = h 0
bytes_set (y ∷ a) (suc n) x h hx (suc i) = bytes_set a n x (λ j. h (suc j)) hx i

pub bytes_xor : (a b : List ℕ) → Bytes a → Bytes b → Bytes (a xor b)
unfolding ◌xor◌
bytes_xor a [] ha hb i = ha i
bytes_xor [] (y ∷ b) ha hb i = lit< tt
bytes_xor (x ∷ a) (y ∷ b) ha hb zero = below 8 x y (ha 0) (hb 0)
bytes_xor (x ∷ a) (y ∷ b) ha hb (suc i) = bytes_xor a b (λ j. ha (suc j)) (λ j. hb (suc j)) i

-- ---- blocks

pub block_zeros : Block (replicate 16 0)
block_zeros = record { size = refl; bytes = bytes_zeros 16 }

-- a block and any bytes
pub block_xor : (a b : List ℕ) → Block a → Bytes b → Block (a xor b)
block_xor a b ha hb = record { size = xor_length a b ∙ ha.size; bytes = bytes_xor a b ha.bytes hb }
