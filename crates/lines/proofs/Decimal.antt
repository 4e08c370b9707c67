-- The digits that `io::decimal` writes are the definition's: dividing by ten takes the last one off both. Assumes nothing.
use mathlib.Core.Path.{◌≡◌, sym, ap, subst, ◌∙◌}
use mathlib.Core.Bool.{Bool, true, false, cond}
use mathlib.Core.List.{List, [], ◌∷◌, ◌++◌}
use Prim.Native.Nat.{ℕ, zero, suc, ◌-◌, ◌/◌, ◌%◌, ◌^◌, ◌≤◌, ◌<◌, zero-le, suc-le-suc}
use native.Mathlib.Nat.{not-suc-le-zero, le_of_suc-le-suc, le_trans, mod-eq_of_lt, pow-suc, div-lt_iff_lt-mul, le-div_iff_mul-le, pow-le-pow_right}
use native.Mathlib.Decide.{dec_le}
use native.Mathlib.Omega.{arith}
use borrow.Author.Tests.{lt-ltb, le-ltb}
use lib.Dec.{ltb, lit<, lit≤}
use lib.ListN.{length, length-append}
use Rattle.io.specs.Digits.{hex_digit_ascii, last_digits, IsDigitCount}
use Rattle.lines.specs.Text.{decimal_in}

ten_le : (k : ℕ) → 10 ≤ 10 ^ suc k
ten_le zero = lit≤ tt
ten_le (suc k) = let ih = ten_le k in rw pow-suc (omega arith)

one_less : (k : ℕ) → suc k - 1 ≡ k
one_less k = omega arith

pub decimal_is : (k f n : ℕ) → k ≤ f → IsDigitCount 10 1 n k → last_digits 10 k n ≡ decimal_in f n
unfolding decimal_in
decimal_is zero f n h w = absurd (not-suc-le-zero w.0)
decimal_is (suc k) zero n h w = absurd (not-suc-le-zero h)
decimal_is (suc zero) (suc f) n h w =
    let small : n < 10 = w.1 in
    ap (λ (d : ℕ). hex_digit_ascii d ∷ []) (mod-eq_of_lt small) ∙ sym (simp (lt-ltb n 10 small))
decimal_is (suc (suc k)) (suc f) n h w =
    let large : 10 ^ suc k ≤ n = subst (λ (i : ℕ). 10 ^ i ≤ n) (one_less (suc k)) (w.2 (suc-le-suc (suc-le-suc zero-le))) in
    let ten : 10 ≤ n = le_trans (ten_le k) large in
    let below : n / 10 < 10 ^ suc k = (div-lt_iff_lt-mul (lit< tt)).1 (subst (λ (x : ℕ). n < x) (pow-suc 10 (suc k)) w.1) in
    let least : 10 ^ k ≤ n / 10 = (le-div_iff_mul-le (lit< tt)).1 (subst (λ (x : ℕ). x ≤ n) (pow-suc 10 k) large) in
    let fewer : IsDigitCount 10 1 (n / 10) (suc k) = (suc-le-suc zero-le, below, λ b. subst (λ (i : ℕ). 10 ^ i ≤ n / 10) (sym (one_less k)) least) in
    ap (λ (x : List ℕ). x ++ (hex_digit_ascii (n % 10) ∷ [])) (decimal_is (suc k) f (n / 10) (le_of_suc-le-suc h) fewer) ∙ sym (simp (le-ltb n 10 ten))

pub decimal_length : (f n : ℕ) → length (decimal_in f n) ≤ f
unfolding decimal_in
decimal_length zero n = zero-le
decimal_length (suc f) n = go (ltb n 10) (decimal_length f (n / 10))
  where
    go : (b : Bool) → length (decimal_in f (n / 10)) ≤ f → length (cond b (hex_digit_ascii n ∷ []) (decimal_in f (n / 10) ++ (hex_digit_ascii (n % 10) ∷ []))) ≤ suc f
    go true h = suc-le-suc zero-le
    go false h = omega (arith, length-append (decimal_in f (n / 10)) (hex_digit_ascii (n % 10) ∷ []))

-- twenty digits are enough for a machine word
pub twenty : (n k : ℕ) → n < 2 ^ 64 → IsDigitCount 10 1 n k → k ≤ 20
twenty n k h w = go (dec_le k 20)
  where
    go : Dec (k ≤ 20) → k ≤ 20
    go (yes d) = d
    go (no d) =
        let long : 20 ≤ k - 1 = omega arith in
        let large : 10 ^ (k - 1) ≤ n = w.2 (omega arith) in
        let more : 10 ^ 20 ≤ 10 ^ (k - 1) = pow-le-pow_right (lit< tt) long in
        omega arith
