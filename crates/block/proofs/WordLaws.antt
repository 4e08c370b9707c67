-- Numbers as strings of bytes, the lowest byte first: there and back, and what std's conversions of a number and its bytes are, in either order.
-- By induction on the string or on the count of bytes. Assumes nothing.
use mathlib.Core.Path.{◌≡◌, refl, sym, ap, ap₂, ◌∙◌}
use mathlib.Core.List.{List, [], ◌∷◌}
use Prim.Native.Nat.{ℕ, zero, suc, ◌+◌, ◌-◌, ◌*◌, ◌/◌, ◌%◌, ◌^◌, ◌<◌}
use native.Mathlib.Nat.{zero-lt-suc, add-zero, sub-zero, suc_inj, suc-sub-suc, one-mul, mul-one, pow-zero, pow-suc, mod-lt, mod-one, mod-eq_of_lt, div-one, div-div-eq-div-mul}
use native.Mathlib.Numerals.{one-add}
use native.Mathlib.Omega.{arith}
use lib.ListN.{length, get_or}
use Rattle.std.specs.Int.{byte_at, byte_worth, bytes_high_first, bytes_low_first, sum_through}
use Rattle.standards.specs.Strings.{Bytes, digits, number, num, to_bytes}
use Rattle.block.specs.Words.{le, le_bytes}
use Rattle.block.proofs.NumberLaws.{mod_step, digits_append}
use Rattle.block.proofs.StringLaws.{bytes_none, bytes_cons}

pub le_bytes_length : (k n : ℕ) → length (le_bytes k n) ≡ k
unfolding le_bytes
le_bytes_length zero n = refl
le_bytes_length (suc k) n = ap suc (le_bytes_length k (n / 256))

pub le_bytes_below : (k n : ℕ) → Bytes (le_bytes k n)
unfolding le_bytes
le_bytes_below zero n = bytes_none
le_bytes_below (suc k) n = bytes_cons (n % 256) (le_bytes k (n / 256)) (mod-lt n (zero-lt-suc 255)) (le_bytes_below k (n / 256))

pub le_below : (S : List ℕ) → Bytes S → le S < 256 ^ length S
unfolding le
le_below [] h = omega (arith, pow-zero 256)
le_below (b ∷ S) h = omega (arith, pow-suc 256 (length S), h 0, le_below S (λ i. h (suc i)))

-- ---- there and back

-- the bytes that are kept
pub le_of_bytes : (k n : ℕ) → le (le_bytes k n) ≡ n % 256 ^ k
unfolding le le_bytes
le_of_bytes zero n = sym (ap (λ (x : ℕ). n % x) (pow-zero 256) ∙ mod-one n)
le_of_bytes (suc k) n = omega (arith, le_of_bytes k (n / 256), mod_step 256 (zero-lt-suc 255) k n)

pub le_le_bytes : (k n : ℕ) → n < 256 ^ k → le (le_bytes k n) ≡ n
le_le_bytes k n h = le_of_bytes k n ∙ mod-eq_of_lt h

pub le_bytes_le : (S : List ℕ) → Bytes S → le_bytes (length S) (le S) ≡ S
unfolding le le_bytes
le_bytes_le [] h = refl
le_bytes_le (b ∷ S) h =
    let low : (b + 256 * le S) % 256 ≡ b = omega (arith, h 0) in
    let high : (b + 256 * le S) / 256 ≡ le S = omega (arith, h 0) in
    rw (low, high, le_bytes_le S (λ i. h (suc i)))

-- only the low bytes count
pub le_bytes_low : (k n : ℕ) → le_bytes k (n % 256 ^ k) ≡ le_bytes k n
le_bytes_low k n =
    ap₂ le_bytes (sym (le_bytes_length k n)) (sym (le_of_bytes k n)) ∙ le_bytes_le (le_bytes k n) (le_bytes_below k n)

-- ---- std's conversions between a number and its bytes, of any count

byte_is : (i n : ℕ) → byte_at i n ≡ n / 256 ^ i % 256
byte_is zero n = sym (ap (λ (x : ℕ). n / x % 256) (pow-zero 256) ∙ ap (λ (x : ℕ). x % 256) (div-one n))
byte_is (suc i) n = refl

pub high_first : (k n : ℕ) → bytes_high_first k n ≡ to_bytes k n
unfolding digits
high_first zero n = refl
high_first (suc k) n =
    ap₂ (λ (x : ℕ) (S : List ℕ). x ∷ S) (byte_is k n) (high_first k n)
    ∙ sym (ap (λ (j : ℕ). to_bytes j n) (sym (one-add k)) ∙ digits_append 256 1 k n)

low_from : (i k n : ℕ) → bytes_low_first i k n ≡ le_bytes k (n / 256 ^ i)
unfolding le_bytes
low_from i zero n = refl
low_from i (suc k) n =
    ap₂ (λ (x : ℕ) (S : List ℕ). x ∷ S) (byte_is i n)
    (low_from (suc i) k n ∙ ap (le_bytes k) (ap (λ (x : ℕ). n / x) (pow-suc 256 i) ∙ sym (div-div-eq-div-mul n (256 ^ i) 256)))

pub low_first : (k n : ℕ) → bytes_low_first 0 k n ≡ le_bytes k n
low_first k n = low_from 0 k n ∙ ap (le_bytes k) (ap (λ (x : ℕ). n / x) (pow-zero 256) ∙ div-one n)

worth : (i b : ℕ) → byte_worth i b ≡ b * 256 ^ i
worth zero b = sym (ap (λ (x : ℕ). b * x) (pow-zero 256) ∙ mul-one b)
worth (suc i) b = refl

sum_first : (f : ℕ → ℕ) (k : ℕ) → sum_through f (suc k) ≡ f 0 + sum_through (λ i. f (suc i)) k
sum_first f zero = refl
sum_first f (suc k) = omega (arith, sum_first f k)

-- f i is what byte i is worth in a number of k + 1 bytes
high_sum : (k : ℕ) (f : ℕ → ℕ) (S : List ℕ) → length S ≡ suc k → ((i : ℕ) → f i ≡ get_or S i 0 * 256 ^ (k - i)) → sum_through f k ≡ num S
unfolding number
high_sum k f [] e h = absurd (omega arith)
high_sum zero f (x ∷ []) e h = h 0 ∙ sym (add-zero (x * 256 ^ 0))
high_sum zero f (x ∷ y ∷ S) e h = absurd (omega arith)
high_sum (suc k) f (x ∷ S) e h =
    sum_first f k
    ∙ ap₂ (λ (y z : ℕ). y + z)
    (h 0 ∙ ap (λ (j : ℕ). x * 256 ^ j) (sub-zero (suc k) ∙ sym (suc_inj e)))
    (high_sum k (λ i. f (suc i)) S (suc_inj e) (λ i. h (suc i) ∙ ap (λ (j : ℕ). get_or S i 0 * 256 ^ j) (suc-sub-suc k i)))

pub num_is : (k : ℕ) (S : List ℕ) → length S ≡ suc k → sum_through (λ i. byte_worth (k - i) (get_or S i 0)) k ≡ num S
num_is k S e = high_sum k (λ i. byte_worth (k - i) (get_or S i 0)) S e (λ i. worth (k - i) (get_or S i 0))

-- the same from the lowest byte on, where all bytes are worth w times as much
low_sum : (w k : ℕ) (f : ℕ → ℕ) (S : List ℕ) → length S ≡ suc k → ((i : ℕ) → f i ≡ w * (get_or S i 0 * 256 ^ i)) → sum_through f k ≡ w * le S
unfolding le
low_sum w k f [] e h = absurd (omega arith)
low_sum w zero f (x ∷ []) e h = h 0 ∙ ap (λ (y : ℕ). w * y) (omega (arith, pow-zero 256))
low_sum w zero f (x ∷ y ∷ S) e h = absurd (omega arith)
low_sum w (suc k) f (x ∷ S) e h =
    let more : (i : ℕ) → f (suc i) ≡ w * 256 * (get_or S i 0 * 256 ^ i) = λ i. h (suc i) ∙ ap (λ (y : ℕ). w * (get_or S i 0 * y)) (pow-suc 256 i) ∙ omega arith in
    sum_first f k
    ∙ ap₂ (λ (y z : ℕ). y + z) (h 0) (low_sum (w * 256) k (λ i. f (suc i)) S (suc_inj e) more)
    ∙ omega (arith, pow-zero 256)

pub le_is : (k : ℕ) (S : List ℕ) → length S ≡ suc k → sum_through (λ i. byte_worth i (get_or S i 0)) k ≡ le S
le_is k S e =
    low_sum 1 k (λ i. byte_worth i (get_or S i 0)) S e (λ i. worth i (get_or S i 0) ∙ sym (one-mul (get_or S i 0 * 256 ^ i))) ∙ one-mul (le S)
